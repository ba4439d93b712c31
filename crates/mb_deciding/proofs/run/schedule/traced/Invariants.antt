-- What the loop of `traced` keeps: the run's state is that after the turns of the schedule so far (`IsCourse`).
use Rattle.std.proofs.Common.{map, take}
use Rattle.mb_quorum.specs.Quorum.{QuorumTable}
use Rattle.mb_deciding.specs.{setup_of, IsSameFor, IsCourse}
use Rattle.mb_deciding.proofs.run.schedule.traced.Given as goal

abbrev pub invariant-loop-turn : goal.invariant-loop-turn
invariant-loop-turn g l =
    (t : QuorumTable) → IsSameFor (g.M.Machine.kind l.machine) t (g.M.Machine.table l.machine)
    → IsCourse (setup_of t (g.M.Machine.kind l.machine) l.inputs)
    (map g.T.ScheduledTurn.turn (take l.turn-index l.schedule)) l.run
