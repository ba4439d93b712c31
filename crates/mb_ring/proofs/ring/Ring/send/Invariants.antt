use Rattle.std.proofs.Common.{◌≡◌, ◌≤◌}
use Rattle.mb_ring.specs.Vocabulary.{MaySend, blinded, calm, found_full, marked_to}
use Rattle.mb_ring.proofs.ring.Ring.send.Given as goal

abbrev pub invariant-loop : goal.invariant-loop
invariant-loop g l =
    (goal.iterator-loop g).can_next l.iterator' × (goal.iterator-loop g).is_finite l.iterator'
    × (l.pass.seat.table_id ≡ l.initial.pass.seat.table_id) × (l.pass.seat.id ≡ l.initial.pass.seat.id)
    × (blinded l.pass.seat.me.0 ≡ calm l.initial.pass.seat.me.0) × (l.pass.seat.me.1 ≡ l.initial.pass.seat.me.1)
    × (found_full l.initial.pass.seat.me.0 ≤ found_full l.pass.seat.me.0)
    × MaySend l.fn.pass.seat.me.0
    × (marked_to l.initial.pass.seat.me.0 ≤ marked_to l.pass.seat.me.0)
