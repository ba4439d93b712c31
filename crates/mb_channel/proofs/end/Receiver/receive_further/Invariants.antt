use Rattle.mb_channel.specs.Ends.{IsBehind, IsOver, stand_of}
use Rattle.mb_channel.specs.Standing.{NoMore}
use Rattle.mb_channel.proofs.end.Receiver.receive_further.Given as goal

abbrev pub invariant-loop : goal.invariant-loop
invariant-loop g l =
    (goal.iterator-loop g).can_next l.iterator' × (goal.iterator-loop g).is_finite l.iterator'
    × IsOver l.self.end × NoMore (stand_of l.initial.self.end) (stand_of l.self.end)
    × (IsBehind l.initial.self.end → IsBehind l.self.end)
