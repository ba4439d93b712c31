use Rattle.std.proofs.Common.{◌≡◌, ◌<◌}
use Rattle.mb_channel.specs.Ends.{view_of}
use Rattle.mb_channel.proofs.end.End.hire_sender.Given as goal

abbrev pub invariant-loop : goal.invariant-loop
invariant-loop g l =
    (0 < l.seen) × (l.self.chair.table_id ≡ l.initial.self.chair.table_id)
    × (view_of l.self ≡ view_of l.initial.self) × (l.self.inside ≡ l.initial.self.inside)
    × (l.self.behind ≡ l.initial.self.behind)
