-- Which positions are drawn, told by the turns of their slots.
use Rattle.mb_ring.proofs.Base.{Some, arith, dec_le, dec_lt, dite, get_elem?, some, ℕ, ⊎_elim, ◌*◌, ◌+◌, ◌<◌, ◌≡◌, ◌≤◌}
use Rattle.mb_segment.proofs.Spots.{all_length, at_below}
use Rattle.mb_ring.specs.Vocabulary.{Keeps, View, all_entries, drawn, taken, turn}
use Rattle.mb_ring.proofs.Turns.{lap_on, one_slot}
use Rattle.mb_ring.proofs.Kept.{St}

module _ {T : Type 0} where
  -- as long as a position is marked and not read, the one a lap later is not drawn
  pub not_again : (s : St T) (k : Keeps s) (p : ℕ) → turn k.size k.states p ≡ 2 * p + 1
      → drawn k.history ≤ p + k.size
  not_again s k p is = dite (dec_le (drawn k.history) (p + k.size)) (λ le. le) (λ high.
      let same_ : turn k.size k.states (p + k.size) ≡ turn k.size k.states p
      = one_slot k.size k.states (p + k.size) p (lap_on k.size p) in
      let some_ = k.sized.2 in
      let l = all_length k.history in
      dite (dec_lt (p + k.size) (taken k.history))
      (λ lt. let c = at_below k.history.claims (p + k.size) lt in
      absurd (⊎_elim (λ z. let e = z.0 in omega arith) (λ z. omega arith) (k.taken_ (p + k.size) c.0 c.1)))
      (λ ge. let e = at_below (all_entries k.history) (p + k.size) (omega arith) in
      absurd (⊎_elim (λ z. let e' = z.0 in omega arith) (λ z. let e' = z.0 in omega arith)
      (k.waits (p + k.size) e.0 (omega arith) e.1))))

  -- a position is drawn if its slot's turn says that it was marked
  pub turn_drawn : (s : St T) (k : Keeps s) (p : ℕ) → p ≤ taken k.history → 2 * p < turn k.size k.states p
      → p < drawn k.history
  turn_drawn s k p le past = dite (dec_lt p (drawn k.history)) (λ lt. lt) (λ high.
      let some_ = k.sized.2 in
      absurd (⊎_elim (λ z. let l = z.0 in omega arith) (λ z. let l = z.1 in omega arith)
      (k.undrawn p (omega arith) (omega arith))))

  pub marked_drawn : (s : St T) (k : Keeps s) (i : ℕ) (v : View T) → get_elem? s.views i ≡ some v → (p : ℕ)
      → v.sight.ripe ≡ Some p → p < drawn k.history
  marked_drawn s k i v at p ripe =
      let t = (k.fits i v at).sight.ripe p ripe in turn_drawn s k p t.0 t.1

  -- a slot that is still at the turn of an earlier position is not in its first lap
  pub later_lap : (s : St T) (k : Keeps s) (p : ℕ) → p ≤ drawn k.history → turn k.size k.states p < 2 * p
      → k.size ≤ p
  later_lap s k p le busy =
      let some_ = k.sized.2 in
      let l = all_length k.history in
      dite (dec_lt p (taken k.history))
      (λ lt. let c = at_below k.history.claims p lt in
      absurd (⊎_elim (λ z. let e = z.0 in omega arith) (λ z. omega arith) (k.taken_ p c.0 c.1)))
      (λ ge. dite (dec_lt p (drawn k.history))
      (λ lt. let e = at_below (all_entries k.history) p (omega arith) in
      absurd (⊎_elim (λ z. let q = z.0 in omega arith) (λ z. let q = z.0 in omega arith)
      (k.waits p e.0 (omega arith) e.1)))
      (λ high. ⊎_elim (λ z. let q = z.0 in absurd (omega arith)) (λ z. z.0)
      (k.undrawn p (omega arith) (omega arith))))
