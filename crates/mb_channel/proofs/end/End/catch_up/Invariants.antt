use Rattle.mb_channel.specs.Ends.{stand_of}
use Rattle.mb_channel.specs.Standing.{NoMore}
use Rattle.mb_channel.proofs.end.End.catch_up.Given as goal

abbrev pub invariant-loop : goal.invariant-loop
invariant-loop g l =
    (goal.iterator-loop g).can_next l.iterator' × (goal.iterator-loop g).is_finite l.iterator'
    × NoMore (stand_of l.initial.self) (stand_of l.self)
