use Rattle.std.proofs.Common.{◌≡◌, true}
use Rattle.mb_channel.specs.Ends.{IsBehind, stand_of, view_of}
use Rattle.mb_channel.specs.Standing.{NoMore}
use Rattle.mb_channel.specs.Wakes.{Tells, wakes_of}
use Rattle.mb_channel.proofs.end.End.learn.Given as goal

abbrev pub invariant-loop : goal.invariant-loop
invariant-loop g l = NoMore (stand_of l.initial.self) (stand_of l.self)
    × (l.takes ≡ true → (view_of l.self).takes ≡ true)
    × Tells 0 (wakes_of l.initial.self) (wakes_of l.self)
    × (IsBehind l.initial.self → IsBehind l.self)
