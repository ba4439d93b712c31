use Rattle.std.proofs.Common.{◌≡◌}
use Rattle.mb_channel.specs.Ends.{IsBehind, SawOver, stand_of}
use Rattle.mb_channel.specs.Standing.{NoMore}
use Rattle.mb_channel.proofs.end.Sender.send_further.Given as goal

abbrev pub invariant-loop : goal.invariant-loop
invariant-loop g l =
    (goal.iterator-loop g).can_next l.iterator' × (goal.iterator-loop g).is_finite l.iterator'
    × SawOver l.self.end × NoMore (stand_of l.initial.self.end) (stand_of l.self.end)
    × (l.value ≡ l.initial.value)
    × (IsBehind l.initial.self.end → IsBehind l.self.end)
