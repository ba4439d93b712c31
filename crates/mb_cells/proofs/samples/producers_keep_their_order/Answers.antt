-- Proof of `samples::producers_keep_their_order`: a part with a link before its item is no prefix of a lane path.
use Rattle.std.proofs.Common.{None, Option, Some, [], ap, arith, inl, inr, refl, ℕ, ◌≡◌}
use Rattle.mb_cells.specs.declared.answer.Finish.TheVariants as finish
use Rattle.mb_cells.specs.declared.lane.LaneStage.TheVariants as stage
use Rattle.mb_cells.proofs.samples.producers_keep_their_order.Goals as goal
use Rattle.mb_cells.specs.Place as phase
use Rattle.mb_cells.specs.{Head, IsLaneAfter, Item, Lane, Word, eight, one_taken}
use Rattle.mb_cells.proofs.NextAccesses.{stores_only}

-- the place of a producer that got cell 0 for the item 8
abbrev pub taken_lane : Lane
taken_lane = record { last = None; stage = stage.Offered 0 8 }

-- after `one_taken` the producer stands at `taken_lane`
taken_at : IsLaneAfter 1 0 taken_lane one_taken
taken_at =
    record {
      entries = [];
      phase = phase.Offered eight;
      at = record { below = tt; fits = omega arith; is = refl };
      last = refl;
      stage = refl;
    }

-- the store of a value in a word, as a push names it
abbrev pub some_store : Word → ℕ → Option (Word × ℕ)
some_store w v = Some (w, v)

-- equal stores go to equal words
same_words : (w u : Word) (n m : ℕ) → some_store w n ≡ some_store u m → w ≡ u
same_words w u n m e =
    let a : Word × ℕ = (w, n) in
    let b : Word × ℕ = (u, m) in
    let pair : a ≡ b = cc in ap (λ (z : Word × ℕ). z.0) pair

-- the next store is that of the item
pub returns : goal.returns
returns c = λ prefix.
    elim (stores_only 1 0 taken_lane one_taken (Head 0) 1 taken_at prefix) [
      | inl e ↦ let w : Item 0 ≡ Head 0 = same_words (Item 0) (Head 0) 8 1 e in cc
      | inr e ↦ let busy : Some finish.Busy ≡ None = e.0 in cc
    ]
