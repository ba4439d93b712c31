-- What the loops of `World::diaries` keep: the state tells the diaries so far, those before consumer `c` and lane `p`.
use Rattle.std.proofs.Common.{◌*◌, ◌+◌}
use Rattle.mb_world.specs.Setups.{plan_in}
use Rattle.mb_world.specs.StateReport.{AreDiariesTold}
use Rattle.mb_world.proofs.world.World.diaries.Given as goal

abbrev pub invariant-loop-c : goal.invariant-loop-c
invariant-loop-c g l = AreDiariesTold l.self (l.c * (plan_in l.self.setup).lanes) l.diaries.items

abbrev pub invariant-loop-p : goal.invariant-loop-p
invariant-loop-p g l = AreDiariesTold l.self (l.c * (plan_in l.self.setup).lanes + l.p) l.diaries.items
