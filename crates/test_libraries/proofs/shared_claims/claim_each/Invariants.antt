-- Loop invariants of `claim_each`, which makes claims of a seat that has made no access, on each of `CELLS` cells.
use Rattle.std.specs.Prelude.{◌≡◌, ◌≤◌, ℕ, []}
use Rattle.mb_claim.specs.Vocabulary.{part_on}
use Rattle.test_libraries.proofs.shared_claims.claim_each.Given as goal

-- the seat is still at its table and of its consumer, which has done nothing on the cells from this one on
abbrev pub invariant-loop-cell : goal.invariant-loop-cell
invariant-loop-cell g l = record {
  table : l.seat.table ≡ l.initial.seat.table;
  same : l.seat.consumer ≡ l.initial.seat.consumer;
  fresh : (k : ℕ) → l.cell ≤ k → part_on l.initial.seat.consumer k l.seat.part ≡ [];
}
