-- The looks before a draw and before a cut keep the rule.
use Rattle.mb_segment.proofs.Base.{Allows, arith, dec_lt, get_elem?, keeps, length, none, refl, slice_index, some, step, stepped}
use Rattle.mb_segment.proofs.Base.{true, ℕ, ◌<◌, ◌≡◌, ◌≤◌}
use Rattle.mb_segment.specs.Vocabulary.{Keeps, Sat, asking, seeing_cut, sees_cut, sees_full}
use Rattle.mb_segment.proofs.Kept.{Goes, St, at0, at_rest, loaded, settled, stays}
use Rattle.mb_segment.proofs.Fitting.{sighted}

module _ {T : Type 0} where
  -- a pass that finds the top bit knows that the segment is cut
  cut_seen : (n : ℕ) (me : Sat T) (s : St T) (k : Keeps s) → get_elem? s.views n ≡ some me.0
      → 9223372036854775808 ≤ slice_index s.words 0
      → Keeps (stepped s 0 (slice_index s.words 0) n me.1 (sees_cut me.0) keeps)
  cut_seen n me s k at high =
      let now_ = at0 s k in let small = k.small in let in_ = k.within in
      let fit = k.fits n me.0 at in
      loaded s 0 n me.1 (sees_cut me.0) (settled s k n me.0 (sees_cut me.0) at refl refl refl refl refl
      (refl, refl, refl)
      (sighted k.history k.states k.cut k.hub k.roll n me.0 record me.0.sight { cut = true } fit fit.low fit.ripe
      fit.full (λ _. omega arith) fit.empty)
      (at_rest s k me.0 (sees_cut me.0) refl))

  sees_cut_at : (slots n : ℕ) (me : Sat T) (s : St T) (k : Keeps s) → get_elem? s.views n ≡ some me.0
      → Dec (slice_index s.words 0 < 9223372036854775808)
      → Goes s 0 n me (seeing_cut (step slots 0 0 0 none) me) (slice_index s.words 0)
  sees_cut_at slots n me s k at (yes low) =
      (me.0, keeps, tt, stays s k 0 n me.0 at me.1, ((λ le. absurd (omega arith)), λ _. (refl, refl)))
  sees_cut_at slots n me s k at (no high) = (
    sees_cut me.0,
    keeps,
    tt,
    cut_seen n me s k at (omega arith),
    ((λ _. (refl, refl)), λ lt. absurd (high lt)),
  )

  pub sees_cuts : (slots n : ℕ) (me : Sat T)
      → Allows Keeps slots n me 0 (λ r. r) (seeing_cut (step slots 0 0 0 none) me)
  sees_cuts slots n me s k homes at small =
      sees_cut_at slots n me s k at (dec_lt (slice_index s.words 0) 9223372036854775808)

  asks_at : (slots n : ℕ) (me : Sat T) (s : St T) (k : Keeps s) → length s.homes ≡ slots → get_elem? s.views n
      ≡ some me.0
      → Dec (slice_index s.words 0 < 9223372036854775808) → Dec (slice_index s.words 0 < slots)
      → Goes s 0 n me (asking (step slots 0 0 0 none) me) (slice_index s.words 0)
  asks_at slots n me s k homes at (no high) small_ =
      let many = k.sized in let small = k.small in (
        sees_cut me.0,
        keeps,
        tt,
        cut_seen n me s k at (omega arith),
        ((λ _. (refl, refl)), (λ lt _. absurd (high lt)), λ lt. absurd (omega arith)),
      )
  asks_at slots n me s k homes at (yes low) (yes less) = (
    me.0,
    keeps,
    tt,
    stays s k 0 n me.0 at me.1,
    ((λ le. absurd (omega arith)), (λ _ le. absurd (omega arith)), λ _. (refl, refl)),
  )
  asks_at slots n me s k homes at (yes low) (no all) =
      let now_ = at0 s k in let many = k.sized in let small = k.small in let in_ = k.within in
      let fit = k.fits n me.0 at in (
        sees_full me.0,
        keeps,
        tt,
        loaded s 0 n me.1 (sees_full me.0) (settled s k n me.0 (sees_full me.0) at refl refl refl refl refl
            (refl, refl, refl)
            (sighted k.history k.states k.cut k.hub k.roll n me.0 record me.0.sight { full = true } fit fit.low
            fit.ripe
            (λ _. omega arith) fit.cut_ fit.empty)
            (at_rest s k me.0 (sees_full me.0) refl)),
        ((λ le. absurd (omega arith)), (λ _ _. (refl, refl)), λ lt. absurd (all lt)),
      )

  pub asks : (slots n : ℕ) (me : Sat T) → Allows Keeps slots n me 0 (λ r. r) (asking (step slots 0 0 0 none) me)
  asks slots n me s k homes at small = asks_at slots n me s k homes at
      (dec_lt (slice_index s.words 0) 9223372036854775808) (dec_lt (slice_index s.words 0) slots)
