use Rattle.std.proofs.Common.{length, ◌≡◌, All}
use Rattle.mb_ring.specs.Vocabulary.{hub_view}
use Rattle.mb_bounded.proofs.Endings.{Taking}
use Rattle.mb_bounded.proofs.ending.take_all.Given as goal

abbrev pub invariant-loop-past : goal.invariant-loop-past
invariant-loop-past g l =
    (l.hub.seat.table_id ≡ l.initial.hub.seat.table_id)
    × All (λ p. p.pass.seat.table_id ≡ l.fn.ring.table.shared.table_id) l.others.items
    × Taking (hub_view l.initial.hub) l.initial.others.items (hub_view l.hub) l.others.items

abbrev pub decreases-loop-past : goal.decreases-loop-past
decreases-loop-past g l = length l.others.items
