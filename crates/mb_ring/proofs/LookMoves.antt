-- The loads of the words of slots and of the number claimed keep the rule.
use Rattle.mb_ring.proofs.Base.{Allows, None, Option, Some, ap, arith, dec_le, dec_lt, get_elem?}
use Rattle.mb_ring.proofs.Base.{keeps, none, refl, slice_index, some, step, subst, suc, ℕ}
use Rattle.mb_ring.proofs.Base.{◌%◌, ◌*◌, ◌+◌, ◌<◌, ◌≡◌, ◌≤◌}
use Rattle.mb_segment.proofs.Spots.{same_some}
use Rattle.mb_ring.specs.Vocabulary.{Keeps, Sat}
use Rattle.mb_ring.specs.Vocabulary.{free, mark_in}
use Rattle.mb_ring.specs.Vocabulary.{seeing_mark, seeing_room, seeing_taken, sees_mark}
use Rattle.mb_ring.specs.Vocabulary.{sees_room, sees_taken, taken, turn}
use Rattle.mb_ring.proofs.Laps.{later_lap, turn_drawn}
use Rattle.mb_ring.proofs.Kept.{St}
use Rattle.mb_ring.proofs.Loads.{Goes, at1, resized, sees, stays, steps}

mark_below : (x : Option ℕ) (r : ℕ) → ((j : ℕ) → x ≡ Some j → j ≤ r) → mark_in x ≤ r + 1
mark_below None r all = omega arith
mark_below (Some j) r all = let l = all j refl in omega arith

module _ {T : Type 0} where
  -- the word of position p's slot
  word_at : (s : St T) (k : Keeps s) (p j : ℕ) → j ≡ p % k.size + 4
      → slice_index s.words j + 2 * (p % k.size) ≡ turn k.size k.states p
  word_at s k p j is =
      let jj : j ≡ suc (suc (suc (suc (p % k.size)))) = omega arith in
      ap (λ m. m + 2 * (p % k.size)) (λ z. slice_index (k.words z) (jj z))

  -- ---- the words of slots
  pub sees_rooms : (slots i : ℕ) (me : Sat T) (j p : ℕ) → j ≡ p % slots + 4
      → Allows Keeps slots i me j (λ r. r) (seeing_room p (step slots j 0 0 none) me)
  sees_rooms slots i me j p is = steps slots i me j (λ r. r) (seeing_room p (step slots j 0 0 none) me)
      (λ s k₀ many at. let k = resized s k₀ slots many in
      go s k refl at (word_at s k p j is) (dec_le (2 * p) (slice_index s.words j + 2 * (p % slots))))
    where
      go : (s : St T) (k : Keeps s) → k.size ≡ slots → get_elem? s.views i ≡ some me.0
          → slice_index s.words j + 2 * (p % slots) ≡ turn k.size k.states p
          → Dec (2 * p ≤ slice_index s.words j + 2 * (p % slots))
          → Goes s j i me (seeing_room p (step slots j 0 0 none) me) (slice_index s.words j)
      go s k many at word (yes free) =
          let f = (k.fits i me.0 at).sight in (
            sees_room p me.0,
            keeps,
            tt,
            sees s k j i me.0 at me.1 record me.0.sight { room = Some p } refl record {
              low = f.low;
              top = f.top;
              room = λ q e. let q' : p ≡ q = same_some p q e in
                  subst (λ (m : ℕ). 2 * m ≤ turn k.size k.states m) q' (omega arith);
              ripe = f.ripe;
              cut_ = f.cut_;
              empty = f.empty;
              full = f.full;
            } (omega arith),
            ((λ _. (refl, refl)), λ lt. absurd (omega arith)),
          )
      go s k many at word (no busy) =
          let top = (k.fits i me.0 at).sight.top in (
            me.0,
            keeps,
            tt,
            stays s k j i me.0 at me.1,
            (
              (λ le. absurd (busy le)),
              λ _. ((refl, refl), λ le. let lap = later_lap s k p (omega arith) (omega arith) in omega arith),
            ),
          )

  pub sees_marks : (slots i : ℕ) (me : Sat T) (j p : ℕ) → j ≡ p % slots + 4 → p ≤ me.0.sight.low
      → Allows Keeps slots i me j (λ r. r) (seeing_mark p (step slots j 0 0 none) me)
  sees_marks slots i me j p is low = steps slots i me j (λ r. r) (seeing_mark p (step slots j 0 0 none) me)
      (λ s k₀ many at. let k = resized s k₀ slots many in
      go s k at (word_at s k p j is) (dec_lt (2 * p) (slice_index s.words j + 2 * (p % slots))))
    where
      go : (s : St T) (k : Keeps s) → get_elem? s.views i ≡ some me.0
          → slice_index s.words j + 2 * (p % slots) ≡ turn k.size k.states p
          → Dec (2 * p < slice_index s.words j + 2 * (p % slots))
          → Goes s j i me (seeing_mark p (step slots j 0 0 none) me) (slice_index s.words j)
      go s k at word (yes marked) =
          let f = (k.fits i me.0 at).sight in let l = f.low in let small = k.small in
          let b = turn_drawn s k p (omega arith) (omega arith) in (
            sees_mark p me.0,
            keeps,
            tt,
            sees s k j i me.0 at me.1 record me.0.sight { ripe = Some p } refl record {
              low = f.low;
              top = f.top;
              room = f.room;
              ripe = λ q e. let q' : p ≡ q = same_some p q e in
                  subst (λ (m : ℕ). (m ≤ taken k.history) × (2 * m < turn k.size k.states m)) q'
                  (omega arith, omega arith);
              cut_ = f.cut_;
              empty = f.empty;
              full = f.full;
            } (omega arith),
            (
              (λ _. ((refl, refl), omega arith)),
              (λ le. absurd (omega arith)),
              λ told_ le. absurd (let d = (k.fits i me.0 at).last told_.0 told_.1 in omega arith),
            ),
          )
      go s k at word (no unmarked) = (
        me.0,
        keeps,
        tt,
        stays s k j i me.0 at me.1,
        ((λ lt. absurd (unmarked lt)), (λ _. (refl, refl)), λ _ _. omega arith),
      )

  -- ---- the number claimed
  pub sees_taken_at : (slots i : ℕ) (me : Sat T)
      → Allows Keeps slots i me 1 (λ r. r) (seeing_taken (step slots 1 0 0 none) me)
  sees_taken_at slots i me = steps slots i me 1 (λ r. r) (seeing_taken (step slots 1 0 0 none) me)
      (λ s k many at.
      let now_ = at1 s k in
      let small = k.small in
      let r = slice_index s.words 1 in
      let f = (k.fits i me.0 at).sight in (
        sees_taken r me.0,
        keeps,
        tt,
        sees s k 1 i me.0 at me.1 record me.0.sight { low = r } refl record {
          low = omega arith;
          top = f.top;
          room = f.room;
          ripe = f.ripe;
          cut_ = f.cut_;
          empty = f.empty;
          full = f.full;
        } (let l = f.low in omega arith),
        (
          (refl, refl),
          mark_below me.0.sight.ripe r (λ j e. let l = (f.ripe j e).0 in omega arith),
          omega arith,
          let l = (k.fits i me.0 at).heard.1 in omega arith,
        ),
      ))
