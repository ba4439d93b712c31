use Rattle.std.proofs.Common.{◌≡◌}
use Rattle.mb_channel.specs.Ends.{IsBehind, stand_of}
use Rattle.mb_channel.specs.Standing.{NoMore}
use Rattle.mb_channel.specs.Wakes.{Tells, wakes_of}
use Rattle.mb_channel.proofs.end.Sender.draw.Given as goal

abbrev pub invariant-loop : goal.invariant-loop
invariant-loop g l = NoMore (stand_of l.initial.end) (stand_of l.end)
    × Tells 0 (wakes_of l.initial.end) (wakes_of l.end)
    × (IsBehind l.initial.end → IsBehind l.end × (l.counter ≡ 0))
