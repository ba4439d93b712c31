use Rattle.std.proofs.Common.{◌≡◌}
use Rattle.mb_channel.specs.Ends.{IsBehind, IsOver, stand_of}
use Rattle.mb_channel.specs.Standing.{NoMore}
use Rattle.mb_channel.specs.Wakes.{Tells, wakes_of}
use Rattle.mb_channel.proofs.end.Receiver.try_further.Given as goal

abbrev pub invariant-loop : goal.invariant-loop
invariant-loop g l =
    NoMore (stand_of l.initial.self.end) (stand_of l.self.end)
    × Tells 0 (wakes_of l.initial.self.end) (wakes_of l.self.end)
    × (IsBehind l.initial.self.end → IsBehind l.self.end × (l.counter ≡ 0))
    × IsOver l.self.end
