use Rattle.std.proofs.Common.{◌≡◌}
use Rattle.mb_channel.specs.Ends.{IsSame, got_by, sent_by}
use Rattle.mb_channel.proofs.end.End.cut_all.Given as goal

abbrev pub invariant-loop : goal.invariant-loop
invariant-loop g l =
    (goal.iterator-loop g).can_next l.iterator' × (goal.iterator-loop g).is_finite l.iterator'
    × IsSame l.initial.self l.self × (sent_by l.self ≡ sent_by l.initial.self) × (got_by l.self ≡ got_by l.initial.self)
