-- Proof of `World::lanes`: the reports of all lanes.
use Rattle.mb_world.proofs.StateLists.{lanes_more}
use Rattle.mb_world.proofs.world.World.lanes.Goals as goal

-- if the state tells the reports of the lanes so far, it tells these and that of the next lane
pub loop-p-preserved : goal.loop-p-preserved
loop-p-preserved g c =
    rw (c.in_ok-push.ensures.items)
    (lanes_more c.args.self.now c.loop-p.p c.in_ok-lane.field-0 c.loop-p.lanes.items c.loop-p.invariant
    c.in_ok-lane.ensures)
