use Rattle.std.proofs.Common.{◌≡◌}
use Rattle.mb_channel.specs.Ends.{view_of}
use Rattle.mb_channel.proofs.end.End.retire.Given as goal

abbrev pub invariant-loop : goal.invariant-loop
invariant-loop g l =
    (goal.iterator-loop g).can_next l.iterator' × (goal.iterator-loop g).is_finite l.iterator'
    × (l.self.chair.table_id ≡ l.initial.self.chair.table_id)
    × (view_of l.self ≡ view_of l.initial.self) × (l.self.inside ≡ l.initial.self.inside)
