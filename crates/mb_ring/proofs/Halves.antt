-- What passes have begun, and what they were told and had learned.
use Rattle.mb_ring.proofs.Base.{List, [], ap, arith, get_elem?, length, refl, set_else, set_here, slice_set, some, some-injective, subst}
use Rattle.mb_ring.proofs.Base.{sym, ℕ, ℕ_discrete, ◌++◌, ◌+◌, ◌<◌, ◌∙◌, ◌∷◌, ◌≡◌, ◌≤◌}
use Rattle.mb_segment.proofs.Spots.{below_length}
use Rattle.mb_segment.proofs.Halves.{no_hub, no_spent, not_true, uncut}
use Rattle.mb_ring.specs.Vocabulary.{Duty, Fits, Half, HasHalf, Heard, Heeds, History, MaySend, MayTake, Member, Spot, View, cuts_by}
use Rattle.mb_ring.specs.Vocabulary.{Issuer, Role, Room, Spent, Values, Want, closing, debts, in_list, listed, no_duties, owed, part}
use Rattle.mb_segment.specs.Passes.{no_duty}
use Rattle.mb_ring.specs.Vocabulary.{drawn, drew, spot, taken, took}

pub no_part : (q : Want) → part q no_duties ≡ no_duty
no_part Values = refl
no_part Room = refl

module _ {T : Type 0} where
  -- what another has begun stays, where the step's own pass had begun something else
  pub half_else : (views : List (View T)) (n : ℕ) (v w : View T) → get_elem? views n ≡ some v → (j : ℕ)
      (half : Half T)
      → (v.half ≡ half → ⊥) → HasHalf views j half → HasHalf (slice_set views n w) j half
  half_else views n v w at j half other has = go (ℕ_discrete j n)
    where
      go : Dec (j ≡ n) → HasHalf (slice_set views n w) j half
      go (yes q) =
          let v_is : v ≡ has.0 = some-injective v has.0
          (sym at ∙ subst (λ (i : ℕ). get_elem? views i ≡ some has.0) q has.1) in
          absurd (other (ap (λ (u : View T). u.half) v_is ∙ has.2))
      go (no ne) = (has.0, set_else views n j w ne ∙ has.1, has.2)

  pub half_here : (views : List (View T)) (n : ℕ) (v w : View T) → get_elem? views n ≡ some v → (half : Half T)
      → w.half ≡ half → HasHalf (slice_set views n w) n half
  half_here views n v w at half e = (w, set_here views n w (below_length views n v at), e)

  -- who has begun something still has, where the step's view keeps it
  pub half_stays : (views : List (View T)) (n : ℕ) (v w : View T) → get_elem? views n ≡ some v → w.half ≡ v.half
      → (j : ℕ) (half : Half T)
      → HasHalf views j half → HasHalf (slice_set views n w) j half
  half_stays views n v w at e j half has = go (ℕ_discrete j n)
    where
      go : Dec (j ≡ n) → HasHalf (slice_set views n w) j half
      go (yes q) =
          let v_is : v ≡ has.0 = some-injective v has.0
          (sym at ∙ subst (λ (i : ℕ). get_elem? views i ≡ some has.0) q has.1) in (
            w,
            subst (λ (i : ℕ). get_elem? (slice_set views n w) i ≡ some w) (sym q)
                (set_here views n w (below_length views n v at)),
            e ∙ (ap (λ (u : View T). u.half) v_is ∙ has.2),
          )
      go (no ne) = (has.0, set_else views n j w ne ∙ has.1, has.2)

  -- a pass of an open ring was told nothing that rules a draw out
  pub may_send : (h : History T) (m : ℕ) (states : List ℕ) (cut hub : ℕ) (roll : List ℕ) (n : ℕ) (v : View T)
      → Fits h m states cut hub roll n v → v.role ≡ Member → cut ≡ cuts_by h.cutter → cut ≡ 0 → MaySend v
  may_send h m states cut hub roll n v f role is open_ = (
    not_true v.sight.cut (λ on. let y = f.sight.cut_ on in absurd (omega arith)),
    (f.member role).cut ∙ uncut h.cutter n (sym is ∙ open_),
    not_true v.over (λ on. let y = (f.over on).0 in absurd (omega arith)),
  )

  -- where a value waits, nobody was told that none can come
  pub may_take : (h : History T) (m : ℕ) (states : List ℕ) (cut hub : ℕ) (roll : List ℕ) (n : ℕ) (v : View T)
      → Fits h m states cut hub roll n v → 0 < length h.rest → MayTake v
  may_take h m states cut hub roll n v f some_ = not_true v.over
      (λ on. let y : length h.rest ≡ 0 = ap length (f.over on).1 in absurd (omega arith))

  -- who owes something, or is in the list, is a pass that is out
  pub is_out : (q : Want) (v : View T) → ((v.role ≡ Member → ⊥) → v.duty ≡ no_duties)
      → 0 < owed q v + listed q v + closing q v → v.role ≡ Member
  is_out q v debt some_ = go v.role refl
    where
      nothing : (v.role ≡ Member → ⊥) → ⊥
      nothing no_ =
          let e : part q v.duty ≡ no_duty = ap (part q) (debt no_) ∙ no_part q in
          let a : owed q v ≡ 0 = ap debts e in
          let b : listed q v ≡ 0 = ap in_list e in
          let c : closing q v ≡ 0 = ap (λ (d : Duty). d.closing) e in omega arith

      go : (r : Role) → v.role ≡ r → v.role ≡ Member
      go Issuer e = absurd (nothing (λ m. no_hub v.role m e))
      go Member e = e
      go Spent e = absurd (nothing (λ m. no_spent v.role m e))

  -- one call more, at position p, by a pass that knew of k before
  heeds_more : (p : ℕ) (x : T) (k : ℕ) (ss : List (Spot T)) (ks : List ℕ) → k ≤ p → Heeds ss ks
      → Heeds (ss ++ spot p x ∷ []) (ks ++ k ∷ [])
  heeds_more p x k [] [] le h = (le, tt)
  heeds_more p x k [] (j ∷ ks) le h = absurd h
  heeds_more p x k (s ∷ ss) [] le h = absurd h
  heeds_more p x k (s ∷ ss) (j ∷ ks) le h = (h.0, heeds_more p x k ss ks le h.1)

  pub heard_draw : (h g : History T) (p : ℕ) (x : T) (v : View T) → drawn h ≤ p → p < drawn g → taken h ≤ taken g
      → Heard h v → Heard g (drew p x v)
  heard_draw h g p x v next more taken_ f = let a = f.0 in let b = f.1 in (
    omega arith,
    omega arith,
    (heeds_more p x v.known.drawn v.account.sent v.account.sent_knew (omega arith) f.2.0, f.2.1, f.2.2),
  )

  pub heard_claim : (h g : History T) (p : ℕ) (x : T) (v : View T) → taken h ≤ p → p < taken g → drawn h ≤ drawn g
      → p < drawn g → Heard h v → Heard g (took p x v)
  heard_claim h g p x v next more drawn_ within f = let a = f.0 in let b = f.1 in (
    omega arith,
    omega arith,
    (f.2.0, heeds_more p x v.known.taken v.account.got v.account.got_knew (omega arith) f.2.1, f.2.2),
  )
