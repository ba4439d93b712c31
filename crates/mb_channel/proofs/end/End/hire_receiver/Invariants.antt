use Rattle.std.proofs.Common.{◌≡◌}
use Rattle.mb_channel.specs.Ends.{view_of}
use Rattle.mb_channel.proofs.end.End.hire_receiver.Given as goal

abbrev pub invariant-loop : goal.invariant-loop
invariant-loop g l =
    (l.self.chair.table_id ≡ l.initial.self.chair.table_id)
    × (view_of l.self ≡ view_of l.initial.self)
    × (l.self.inside ≡ l.initial.self.inside)
    × (l.self.behind ≡ l.initial.self.behind)
