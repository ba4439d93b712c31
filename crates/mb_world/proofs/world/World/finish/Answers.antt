-- Proof of `World::finish`: the producer of lane `p` stores the end mark.
use Rattle.mb_world.proofs.StateSteps.{still_sound}
use Rattle.mb_world.proofs.world.World.finish.Goals as goal

-- the world is sound after the finish
pub invariant_of-self : goal.invariant_of-self
invariant_of-self g c =
    still_sound _ _ _ _ (c.calls_leave_states.ensures.finished _ _ c.args.p c.finish.result c.finish.new.self
    c.self.invariant.1 (rw (← c.self.view_is) at c.requires) c.finish.ensures.meets c.finish.ensures.size)

-- the event leaves the state with the new pool
pub returns-clause-adds : goal.returns-clause-adds
returns-clause-adds g c h is =
    c.calls_leave_states.ensures.finished _ h c.args.p c.finish.result c.finish.new.self
    (rw (← c.self.view_is) at is) (rw (← c.self.view_is) at c.requires) c.finish.ensures.meets c.finish.ensures.size

-- a finish that is refused changes nothing
pub returns-clause-kept : goal.returns-clause-kept
returns-clause-kept g c h is refused =
    rw (c.calls_leave_states.ensures.finish_refused _ h c.args.p _ c.finish.new.self
    (rw (← c.self.view_is) at is) (rw (← c.self.view_is) at c.requires) (rw (← c.self.view_is) at refused)
    c.finish.ensures.kept) c.self.view_is
