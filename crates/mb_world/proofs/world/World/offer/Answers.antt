-- Proof of `World::offer`: the producer of lane `p` takes a cell for the item.
use Rattle.mb_world.proofs.StateSteps.{still_sound}
use Rattle.mb_world.proofs.world.World.offer.Goals as goal

-- the world is sound after the offer
pub invariant_of-self : goal.invariant_of-self
invariant_of-self g c =
    still_sound _ _ _ _ (c.calls_leave_states.ensures.offered _ _ c.args.p c.args.item c.offer.result c.offer.new.self
    c.self.invariant.1 (rw (← c.self.view_is) at c.requires) c.offer.ensures.meets c.offer.ensures.size)

-- the event leaves the state with the new pool
pub returns-clause-adds : goal.returns-clause-adds
returns-clause-adds g c h is =
    c.calls_leave_states.ensures.offered _ h c.args.p c.args.item c.offer.result c.offer.new.self
    (rw (← c.self.view_is) at is) (rw (← c.self.view_is) at c.requires) c.offer.ensures.meets c.offer.ensures.size

-- an offer that is refused changes nothing
pub returns-clause-kept : goal.returns-clause-kept
returns-clause-kept g c h is refused =
    rw (c.calls_leave_states.ensures.offer_refused _ h c.args.p c.args.item _ c.offer.new.self
    (rw (← c.self.view_is) at is) (rw (← c.self.view_is) at c.requires) (rw (← c.self.view_is) at refused)
    c.offer.ensures.kept) c.self.view_is
