-- What the loop over the lanes of a report keeps.
use Rattle.std.specs.Prelude.{◌≡◌, ◌+◌, ◌%◌, ◌^◌, ◌≤◌, length, take}
use Rattle.std.specs.List.{All, sum_by}
use Rattle.mb_world.specs.Theorem.{LaneView}
use Rattle.test_audit.proofs.rules.audit.Given as goal

-- the tally counts the items put and left on the lanes before this one, modulo 2^64. The items taken and those left are
-- together those put. None of these lanes has more items left than put
abbrev pub invariant-loop-number : goal.invariant-loop-number
invariant-loop-number g l =
    (l.tally.put ≡ sum_by (λ (x : LaneView). length x.put) (take l.number l.report.lanes) % 2 ^ 64)
    × (l.tally.left ≡ sum_by (λ (x : LaneView). length x.left) (take l.number l.report.lanes) % 2 ^ 64)
    × ((l.tally.took + l.tally.left) % 2 ^ 64 ≡ l.tally.put)
    × All (λ (x : LaneView). length x.left ≤ length x.put) (take l.number l.report.lanes)
