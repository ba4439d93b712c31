-- What the loop of `World::lanes` keeps: the state tells the reports so far, those of the first `p` lanes.
use Rattle.mb_world.specs.StateReport.{AreLanesTold}
use Rattle.mb_world.proofs.world.World.lanes.Given as goal

abbrev pub invariant-loop-p : goal.invariant-loop-p
invariant-loop-p g l = AreLanesTold l.self l.p l.lanes.items
