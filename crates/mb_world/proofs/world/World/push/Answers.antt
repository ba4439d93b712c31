-- Proof of `World::push`: the producer of lane `p` stores the item that it offered, or links its cell.
use Rattle.mb_world.proofs.StateSteps.{still_sound}
use Rattle.mb_world.proofs.world.World.push.Goals as goal

-- the world is sound after the push
pub invariant_of-self : goal.invariant_of-self
invariant_of-self g c =
    still_sound _ _ _ _ (c.calls_leave_states.ensures.pushed _ _ c.args.p c.push.result c.push.new.self
    c.self.invariant.1 (rw (← c.self.view_is) at c.requires) c.push.ensures.meets c.push.ensures.size)

-- the event leaves the state with the new pool
pub returns-clause-adds : goal.returns-clause-adds
returns-clause-adds g c h is =
    c.calls_leave_states.ensures.pushed _ h c.args.p c.push.result c.push.new.self
    (rw (← c.self.view_is) at is) (rw (← c.self.view_is) at c.requires) c.push.ensures.meets c.push.ensures.size
