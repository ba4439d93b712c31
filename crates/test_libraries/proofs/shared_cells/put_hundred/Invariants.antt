-- Loop invariants of `put_hundred`, which puts a hundred items, from `first` on, and ends the lane.
use Rattle.std.proofs.Common.{◌≡◌, ◌≤◌}
use Rattle.test_libraries.proofs.shared_cells.put_hundred.Given as goal

-- the seat is still at the table, and no more items are put than were offered
abbrev pub invariant-loop-i : goal.invariant-loop-i
invariant-loop-i g l = record { table : l.seat.table ≡ l.table; few : l.done ≤ l.i }
