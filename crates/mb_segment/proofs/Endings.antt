-- The end of a segment: with all passes back, its last state tells the whole history.
use Rattle.mb_segment.proofs.Base.{List, Option, Some, [], ap, arith, get_elem?}
use Rattle.mb_segment.proofs.Base.{length, refl, set_else, slice_index, slice_set, some}
use Rattle.mb_segment.proofs.Base.{some-injective, some-ne-none, subst, suc, sym, true, zero, ℕ}
use Rattle.mb_segment.proofs.Base.{⊎_elim, ◌%◌, ◌*◌, ◌++◌, ◌+◌, ◌<◌, ◌∙◌, ◌∷◌, ◌≡◌, ◌≤◌}
use Rattle.mb_segment.specs.Vocabulary.{Claim, Entry, Half, HasHalf, In, IsWhole, Issuer, Keeps, Member}
use Rattle.mb_segment.specs.Vocabulary.{Nothing, Role, Spent, Stand, View, Writes, drawn}
use Rattle.mb_segment.specs.Vocabulary.{entries, member, one_if_member, spot, taken}
use Rattle.mb_segment.specs.Vocabulary.{values}
use Rattle.mb_segment.proofs.Totals.{below_total, some_view}
use Rattle.mb_segment.proofs.Spots.{index_at}
use Rattle.mb_segment.proofs.Halves.{no_writes}
use Rattle.mb_segment.proofs.Kept.{St, at0, at1}
use Rattle.mb_segment.proofs.BackMoves.{out_of_hub}
use Rattle.mb_segment.proofs.Places.{closer, drawer, taker}
use Rattle.std.specs.Prelude.{slice_index_or}
use Rattle.atomic_table.specs.Table.{Final, Seen}

module _ {T : Type 0} where
  rest_at : (cs : List (Claim T)) (es : List (Entry T)) (i : ℕ) (e : Entry T) → get_elem? es i ≡ some e
      → get_elem? (entries cs ++ es) (length cs + i) ≡ some e
  rest_at [] es i e at = let q : i ≡ 0 + i = omega arith in subst (λ (j : ℕ). get_elem? es j ≡ some e) q at
  rest_at (c ∷ cs) es i e at =
      let q : suc (length cs + i) ≡ length (c ∷ cs) + i = omega arith in
      subst (λ (j : ℕ). get_elem? (c.entry ∷ (entries cs ++ es)) j ≡ some e) q (rest_at cs es i e at)

  stands_from : (slots : List (Option T)) (p : ℕ) (es : List (Entry T))
      → ((i : ℕ) (e : Entry T) → get_elem? es i ≡ some e → get_elem? slots (p + i) ≡ some (Some e.value))
      → Stand slots p (values es)
  stands_from slots p [] all = tt
  stands_from slots p (e ∷ es) all = (
    subst (λ (q : ℕ). get_elem? slots q ≡ some (Some e.value)) (omega arith) (all 0 e refl),
    stands_from slots (suc p) es (λ i d at. subst (λ (q : ℕ). get_elem? slots q ≡ some (Some d.value))
        (omega arith) (all (suc i) d at)),
  )

  values_length : (es : List (Entry T)) → length (values es) ≡ length es
  values_length [] = refl
  values_length (e ∷ es) = let r = values_length es in omega arith

  module _ (s : St T) (k : Keeps s) (n : ℕ) (v : View T) (at : get_elem? s.views n ≡ some v)
      (role : v.role ≡ Issuer) (none_out : v.out ≡ 0) where
    no_member : (j : ℕ) (u : View T) → get_elem? s.views j ≡ some u → u.role ≡ Member → ⊥
    no_member j u e r =
        let all = out_of_hub s k n v at role in
        let mine = below_total member s.views j u e in
        let o = k.out_ in
        let one_ : member u ≡ 1 = ap one_if_member r in omega arith

    -- each pass but the hub came back
    is_back : (j : ℕ) (u : View T) → get_elem? s.views j ≡ some u → (j ≡ k.hub → ⊥) → u.role ≡ Spent
    is_back j u e ne = go u.role refl
      where
        go : (r : Role) → u.role ≡ r → u.role ≡ Spent
        go Issuer q = absurd (ne ((k.fits j u e).hub_ q).here)
        go Member q = absurd (no_member j u e q)
        go Spent q = q

    pub nothing_begun : (j : ℕ) (half : Half T) → (Nothing ≡ half → ⊥) → HasHalf s.views j half → ⊥
    nothing_begun j half other h = go h.0.role refl
      where
        go : (r : Role) → h.0.role ≡ r → ⊥
        go Issuer e = other (sym ((k.fits j h.0 h.1).hub_ e).nothing ∙ h.2)
        go Member e = no_member j h.0 h.1 e
        go Spent e = other (sym ((k.fits j h.0 h.1).back e).1 ∙ h.2)

    -- who is neither the hub nor without a view came back
    pub in_roll : (j : ℕ) → (length s.views ≤ j → ⊥) → (j ≡ k.hub → ⊥) → In j k.roll
    in_roll j there_ ne =
        let u = some_view s.views j (omega arith) in
        ((k.fits j u.0 u.1).back (is_back j u.0 u.1 ne)).0

    pub whole : IsWhole v.ends (values k.history.rest)
    whole = record {
      history = k.history;
      numbers = k.roll;
      apart = k.apart;
      accounts_ = ((k.fits n v at).hub_ role).ends;
      senders = λ i e e_at. let d = drawer s k i e e_at in in_roll e.by d.0 d.1;
      receivers = λ i c c_at. let d = taker s k i c c_at in in_roll c.to d.0 d.1;
      closer = λ j e. let d = closer s k j e in in_roll j d.0 d.1;
      left_is = refl;
      heeds = (k.fits n v at).heard.3.2;
    }

    pub stands : (slots : List (Option T)) → ((j : ℕ) (y : Option T) → get_elem? s.homes j ≡ some (some y)
        → get_elem? slots j ≡ some y)
        → Stand slots (taken k.history) (values k.history.rest)
    stands slots home = stands_from slots (taken k.history) k.history.rest (λ i e e_at. ⊎_elim
        (λ z. absurd (nothing_begun e.by (Writes (spot (taken k.history + i) e.value))
        (no_writes Nothing (spot (taken k.history + i) e.value) refl) z.1))
        (λ z. home (taken k.history + i) (Some e.value) z.1)
        (k.waits (taken k.history + i) e (omega arith) (rest_at k.history.claims k.history.rest i e e_at)))

  -- what the words and slots of a closed segment tell
  pub closes : (n : ℕ) (v : View T) (ws : List ℕ) (slots : List (Option T)) (drawn_ taken_ : ℕ) → v.role ≡ Issuer
      → v.out ≡ 0
      → Final (Seen Keeps n v) ws slots → get_elem? ws 0 ≡ some drawn_ → get_elem? ws 16 ≡ some taken_
      → (left : List T) × IsWhole v.ends left × Stand slots taken_ left
      × (taken_ + length left ≡ drawn_ % 9223372036854775808) × (taken_ + length left ≤ length slots)
      × (v.over ≡ true → left ≡ [])
  closes n v ws slots drawn_ taken_ role none_out (s, seen, words, many, home) at_drawn at_taken =
      let k = seen.0 in
      let at = seen.1 in
      let d : drawn_ ≡ drawn k.history + 9223372036854775808 * k.cut
      = sym (index_at ws 0 drawn_ at_drawn) ∙ (ap (λ l. slice_index l 0) (sym words) ∙ at0 s k) in
      let t : taken_ ≡ taken k.history = sym (index_at ws 16 taken_ at_taken)
      ∙ (ap (λ l. slice_index l 16) (sym words) ∙ at1 s k) in
      let l = values_length k.history.rest in
      let in_ = k.within in let small = k.small in let sized = k.sized in (
        values k.history.rest,
        whole s k n v at role none_out,
        subst (λ (p : ℕ). Stand slots p (values k.history.rest)) (sym t)
            (stands s k n v at role none_out slots home),
        omega arith,
        omega arith,
        λ on. ap values ((k.fits n v at).over on).1,
      )

  -- ---- what is left after one value is given out
  index_or_at : (slots : List (Option T)) (p : ℕ) (y r : Option T) → get_elem? slots p ≡ some y
      → slice_index_or slots p r ≡ y
  index_or_at [] p y r at = absurd (some-ne-none y (sym at))
  index_or_at (z ∷ zs) zero y r at = some-injective z y at
  index_or_at (z ∷ zs) (suc p) y r at = index_or_at zs p y r at

  pub stand_after : (slots : List (Option T)) (p q : ℕ) (y : Option T) (xs : List T) → p < q → Stand slots q xs
      → Stand (slice_set slots p y) q xs
  stand_after slots p q y [] lt st = tt
  stand_after slots p q y (x ∷ xs) lt st = (
    set_else slots p q y (λ e. omega arith) ∙ st.0,
    stand_after slots p
        (suc q) y xs (omega arith) st.1,
  )

  pub first_left : (slots : List (Option T)) (p : ℕ) (x : T) (xs : List T) (r : Option T) → Stand slots p (x ∷ xs)
      → r ≡ slice_index_or slots p r → r ≡ Some x
  first_left slots p x xs r st e = e ∙ index_or_at slots p (Some x) r st.0
