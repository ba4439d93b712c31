use Rattle.std.proofs.Common.{◌≡◌, ◌≤◌}
use Rattle.mb_segment.specs.Vocabulary.{bare, calm, marked_to, found_empty}
use Rattle.mb_segment.proofs.segment.Segment.find_soon.Given as goal

abbrev pub invariant-loop-look : goal.invariant-loop-look
invariant-loop-look g l =
    (l.pass.seat.table_id ≡ l.initial.pass.seat.table_id) × (l.pass.seat.id ≡ l.initial.pass.seat.id)
    × (bare l.pass.seat.me.0 ≡ calm l.initial.pass.seat.me.0) × (l.pass.seat.me.1 ≡ l.initial.pass.seat.me.1)
    × (marked_to l.initial.pass.seat.me.0 ≤ marked_to l.pass.seat.me.0)
    × (found_empty l.initial.pass.seat.me.0 ≤ found_empty l.pass.seat.me.0)
