-- What passes have begun, roles, free positions, and the accounts of passes that came back.
use Rattle.mb_segment.proofs.Base.{Bool, List, None, Option, Some, [], ap, arith, false, get_elem?, inl, inr, length, refl}
use Rattle.mb_segment.proofs.Base.{replicate, set_else, set_here, slice_set, some, some-injective, subst, suc}
use Rattle.mb_segment.proofs.Base.{sym, true, zero, ℕ, ℕ_discrete, ◌+◌, ◌-◌, ◌<◌, ◌∙◌, ◌∷◌, ◌≡◌, ◌⊎◌}
use Rattle.mb_segment.specs.Vocabulary.{Account, Called, Duty, Fits, Half, HasHalf, History, In, Issuer, Match, MaySend, MayTake, Member, Nothing}
use Rattle.mb_segment.specs.Vocabulary.{Reads, Role, Spent, Spot, View, Writes, cuts_by, drawn, free, got_by, has_cut, if_hub, is_of}
use Rattle.mb_segment.specs.Vocabulary.{listed, no_duty, one_if_member, or, owed, sent_by, taken}
use Rattle.mb_segment.proofs.Totals.{there}

pub free_open : (cut undrawn : ℕ) → cut ≡ 0 → free cut undrawn ≡ undrawn
free_open zero undrawn e = refl
free_open (suc c) undrawn e = absurd (omega arith)

pub free_shut : (cut undrawn : ℕ) → 0 < cut → free cut undrawn ≡ 0
free_shut zero undrawn e = absurd (omega arith)
free_shut (suc c) undrawn e = refl

pub uncut : (c : Option ℕ) (j : ℕ) → cuts_by c ≡ 0 → is_of j c ≡ false
uncut None j e = refl
uncut (Some m) j e = absurd (omega arith)

pub no_hub : (r : Role) → r ≡ Member → r ≡ Issuer → ⊥
no_hub r m h = let e : one_if_member Member ≡ one_if_member Issuer = ap one_if_member (sym m ∙ h) in omega arith

pub no_spent : (r : Role) → r ≡ Member → r ≡ Spent → ⊥
no_spent r m h = let e : one_if_member Member ≡ one_if_member Spent = ap one_if_member (sym m ∙ h) in omega arith

pub hub_is_not_spent : (r : Role) → r ≡ Issuer → r ≡ Spent → ⊥
hub_is_not_spent r a b =
    let e : if_hub Issuer 1 ≡ if_hub Spent 1 = ap (λ (x : Role). if_hub x 1) (sym a ∙ b) in omega arith

pub hub_is_no_member : Issuer ≡ Member → ⊥
hub_is_no_member e = no_hub Member refl (sym e)

pub spent_is_no_member : Spent ≡ Member → ⊥
spent_is_no_member e = no_spent Member refl (sym e)

pub either_over : (a b : Bool) → or a b ≡ true → (a ≡ true) ⊎ (b ≡ true)
either_over true b e = inl refl
either_over false b e = inr e

pub not_true : (b : Bool) → (b ≡ true → ⊥) → b ≡ false
not_true true no_ = absurd (no_ refl)
not_true false no_ = refl

-- the slots of a new segment
abbrev pub empty_slots : (T : Type 0) → ℕ → List (Option T)
empty_slots T count = replicate count None

module _ {T : Type 0} where
  abbrev kind : Half T → ℕ
  kind Nothing = 0
  kind (Writes s) = 1
  kind (Reads s) = 2

  abbrev place : Half T → ℕ
  place Nothing = 0
  place (Writes s) = s.at
  place (Reads s) = s.at

  pub no_writes : (x : Half T) (s : Spot T) → x ≡ Nothing → x ≡ Writes s → ⊥
  no_writes x s p q = let e : kind Nothing ≡ kind (Writes s) = ap kind (sym p ∙ q) in omega arith

  pub no_reads : (x : Half T) (s : Spot T) → x ≡ Nothing → x ≡ Reads s → ⊥
  no_reads x s p q = let e : kind Nothing ≡ kind (Reads s) = ap kind (sym p ∙ q) in omega arith

  pub not_both : (x : Half T) (r s : Spot T) → x ≡ Writes r → x ≡ Reads s → ⊥
  not_both x r s p q = let e : kind (Writes r) ≡ kind (Reads s) = ap kind (sym p ∙ q) in omega arith

  pub writes_one : (x : Half T) (r s : Spot T) → x ≡ Writes r → x ≡ Writes s → r.at ≡ s.at
  writes_one x r s p q = ap place (sym p ∙ q)

  pub reads_one : (x : Half T) (r s : Spot T) → x ≡ Reads r → x ≡ Reads s → r.at ≡ s.at
  reads_one x r s p q = ap place (sym p ∙ q)

  -- what another has begun stays, where the step's own pass had begun something else
  pub half_else : (views : List (View T)) (n : ℕ) (v w : View T) → get_elem? views n ≡ some v → (j : ℕ)
      (half : Half T)
      → (v.half ≡ half → ⊥) → HasHalf views j half → HasHalf (slice_set views n w) j half
  half_else views n v w at j half other has = go (ℕ_discrete j n)
    where
      go : Dec (j ≡ n) → HasHalf (slice_set views n w) j half
      go (yes q) =
          let v_is : v ≡ has.0 = some-injective v has.0
          (sym at ∙ subst (λ (i : ℕ). get_elem? views i ≡ some has.0) q has.1) in
          absurd (other (ap (λ (u : View T). u.half) v_is ∙ has.2))
      go (no ne) = (has.0, set_else views n j w ne ∙ has.1, has.2)

  pub half_here : (views : List (View T)) (n : ℕ) (v w : View T) → get_elem? views n ≡ some v → (half : Half T)
      → w.half ≡ half → HasHalf (slice_set views n w) n half
  half_here views n v w at half e = (w, set_here views n w (there views n v at), e)

  -- a pass of an open segment with a free position was told nothing that rules a draw out
  pub may_send : (h : History T) (states : List ℕ) (cut hub : ℕ) (roll : List ℕ) (n : ℕ) (v : View T)
      → Fits h states cut hub roll n v → v.role ≡ Member → cut ≡ cuts_by h.cutter → cut ≡ 0
      → drawn h < length states → (p : ℕ) → p ≡ drawn h → MaySend p v
  may_send h states cut hub roll n v f role is open_ room p at = (
    let a = f.heard.0 in omega arith,
    not_true v.sight.full (λ on. let y = f.full on in absurd (omega arith)),
    not_true v.sight.cut (λ on. let y = f.cut_ on in absurd (omega arith)),
    (f.member role).cut ∙ uncut h.cutter n (sym is ∙ open_),
    not_true v.over (λ on. let y = (f.over on).0 in let e = free_open cut (length states - drawn h) open_ in
        absurd (omega arith)),
  )

  -- where a value waits, nobody was told that none can come
  pub may_take : (h : History T) (states : List ℕ) (cut hub : ℕ) (roll : List ℕ) (n : ℕ) (v : View T)
      → Fits h states cut hub roll n v → 0 < length h.rest → (p : ℕ) → p ≡ taken h → MayTake p v
  may_take h states cut hub roll n v f some_ p at = (
    let b = f.heard.1 in omega arith,
    not_true v.over (λ on. let y : length h.rest ≡ 0 = ap length (f.over on).1 in absurd (omega arith)),
  )

  -- who owes something, or is in the list, is a pass that is out
  pub is_out : (v : View T) → ((v.role ≡ Member → ⊥) → v.duty ≡ no_duty) → 0 < owed v + listed v → v.role ≡ Member
  is_out v debt some_ = go v.role refl
    where
      nothing : (v.role ≡ Member → ⊥) → ⊥
      nothing no_ =
          let a : owed v ≡ 0 = ap (λ (d : Duty). d.wakes + d.looks + d.fresh + d.closing) (debt no_) in
          let b : listed v ≡ 0 = ap (λ (d : Duty). d.fresh + d.asleep + d.leaving) (debt no_) in omega arith

      go : (r : Role) → v.role ≡ r → v.role ≡ Member
      go Issuer e = absurd (nothing (λ m. no_hub v.role m e))
      go Member e = e
      go Spent e = absurd (nothing (λ m. no_spent v.role m e))

  pub match_kept : (h g : History T) (roll : List ℕ) (as_ : List (Account T))
      → ((j : ℕ) → In j roll → (sent_by j g ≡ sent_by j h) × (got_by j g ≡ got_by j h) × (has_cut j g ≡ has_cut j h))
      → Match h roll as_
      → Match g roll as_
  match_kept h g [] [] all m = tt
  match_kept h g [] (a ∷ more) all m = absurd m
  match_kept h g (j ∷ js) [] all m = absurd m
  match_kept h g (j ∷ js) (a ∷ more) all m = let o = all j (inl refl) in
      (m.0 ∙ sym o.0, m.1 ∙ sym o.1, m.2 ∙ sym o.2, match_kept h g js more (λ i in_. all i (inr in_)) m.3)

  pub called_kept : (names later : ℕ → ℕ) (roll : List ℕ) (as_ : List (Account T))
      → ((j : ℕ) → In j roll → later j ≡ names j) → Called names roll as_ → Called later roll as_
  called_kept names later [] [] all c = tt
  called_kept names later [] (a ∷ more) all c = absurd c
  called_kept names later (j ∷ js) [] all c = absurd c
  called_kept names later (j ∷ js) (a ∷ more) all c =
      (c.0 ∙ sym (all j (inl refl)), called_kept names later js more (λ i in_. all i (inr in_)) c.1)

  -- who has begun something still has, where the step's view keeps it
  pub half_stays : (views : List (View T)) (n : ℕ) (v w : View T) → get_elem? views n ≡ some v → w.half ≡ v.half
      → (j : ℕ) (half : Half T)
      → HasHalf views j half → HasHalf (slice_set views n w) j half
  half_stays views n v w at e j half has = go (ℕ_discrete j n)
    where
      go : Dec (j ≡ n) → HasHalf (slice_set views n w) j half
      go (yes q) =
          let v_is : v ≡ has.0 = some-injective v has.0
          (sym at ∙ subst (λ (i : ℕ). get_elem? views i ≡ some has.0) q has.1) in (
            w,
            subst (λ (i : ℕ). get_elem? (slice_set views n w) i ≡ some w) (sym q)
                (set_here views n w (there views n v at)),
            e ∙ (ap (λ (u : View T). u.half) v_is ∙ has.2),
          )
      go (no ne) = (has.0, set_else views n j w ne ∙ has.1, has.2)
