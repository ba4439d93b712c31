use Rattle.mb_channel.specs.Work.{IsStill, work_of}
use Rattle.mb_channel.proofs.busy.Busy.pay.Given as goal

abbrev pub invariant-loop : goal.invariant-loop
invariant-loop g l =
    (goal.iterator-loop g).can_next l.iterator' × (goal.iterator-loop g).is_finite l.iterator'
    × IsStill (work_of l.initial.busy) (work_of l.busy)
