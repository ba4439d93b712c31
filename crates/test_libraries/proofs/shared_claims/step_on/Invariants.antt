-- Loop invariants of `step_on`, which makes `most` steps of a claim with the random word 0, or fewer if it ends before.
use Rattle.std.specs.Prelude.{◌≡◌, ◌≢◌, ℕ}
use Rattle.mb_claim.specs.Vocabulary.{IsClaimIn, consumer_of, part_on}
use Rattle.test_libraries.proofs.shared_claims.step_on.Given as goal

-- the seat is still at its table and of its consumer, and so is the claim. The consumer's part on the cell is that of
-- the claim, and its parts on other cells are as they were at first
abbrev pub invariant-loop-turn : goal.invariant-loop-turn
invariant-loop-turn g l = record {
  table : l.seat.table ≡ l.initial.seat.table;
  same : l.seat.consumer ≡ l.initial.seat.consumer;
  consumer : consumer_of l.claim ≡ l.initial.seat.consumer;
  standing : IsClaimIn l.table.layout l.claim (part_on l.initial.seat.consumer l.cell l.seat.part);
  others : (k : ℕ) → k ≢ l.cell
      → part_on l.initial.seat.consumer k l.seat.part ≡ part_on l.initial.seat.consumer k l.initial.seat.part;
}
