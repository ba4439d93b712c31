use Rattle.std.proofs.Common.{◌≡◌}
use Rattle.mb_channel.specs.Ends.{IsSame, got_by, sent_by, view_of}
use Rattle.mb_channel.proofs.end.End.count_one.Given as goal

abbrev pub invariant-loop : goal.invariant-loop
invariant-loop g l =
    IsSame l.initial.self l.self × ((view_of l.self).takes ≡ (view_of l.initial.self).takes)
    × (l.self.behind ≡ l.initial.self.behind) × (l.self.inside ≡ l.initial.self.inside)
    × (view_of l.self ≡ view_of l.initial.self)
    × (sent_by l.self ≡ sent_by l.initial.self) × (got_by l.self ≡ got_by l.initial.self)
