-- Proof of `World::take`: the claim of consumer `c` on cell `k` is won: the consumer loads the item.
use Rattle.std.proofs.Common.{arith}
use Rattle.mb_world.specs.Plan.{consumers_of}
use Rattle.mb_world.specs.Setups.{plan_in}
use Rattle.mb_world.specs.World.{pool_accesses}
use Rattle.mb_world.proofs.NewWorlds.{position_within}
use Rattle.mb_world.proofs.StateSteps.{still_sound}
use Rattle.mb_world.proofs.world.World.take.Goals as goal

-- the cell is one of the pool's
pub item-item-requires : goal.item-item-requires
item-item-requires g c =
    let on = c.claims_leave_states.ensures.on _ _ c.args.c c.args.p c.args.k c.requires.0 c.self.invariant.1
    (rw (← c.self.view_is) at c.requires.1) in
    omega (arith, on.cell, c.self.invariant.1.cells)

-- the note's position is in the list of notes
pub index_mut-requires-2 : goal.index_mut-requires-2
index_mut-requires-2 g c =
    let has = rw (← c.self.view_is) at c.requires.1 in
    let is = c.self.invariant.1 in
    let plan = plan_in c.self.inside.setup in
    let on = c.claims_leave_states.ensures.on _ _ c.args.c c.args.p c.args.k c.requires.0 is has in
    let inside = position_within c.args.c c.args.k (consumers_of plan) plan.claims.cells has.consumer on.cell in
    rw (c.cells.ensures) (omega (arith, inside, is.notes_count, c.self.inside.notes.ok.0))

-- the world is sound after the load
pub invariant_of-self : goal.invariant_of-self
invariant_of-self g c =
    let h = c.self.invariant.0 in
    let is = c.self.invariant.1 in
    rw (c.producers.ensures, c.cells.ensures, c.item-item.ensures.after (pool_accesses h) is.pool)
    (still_sound _ _ _ h (c.takes_leave_states.ensures _ h c.args.c c.args.p 0 c.args.k c.requires.0 is
    (rw (← c.self.view_is) at c.requires.1) c.requires.2))

-- the event leaves the state with the consumer's note, and with its place past the cell
pub returns-clause-adds : goal.returns-clause-adds
returns-clause-adds g c h word was =
    let is = rw (← c.self.view_is) at was in
    rw (c.producers.ensures, c.cells.ensures, c.item-item.ensures.after (pool_accesses h) is.pool)
    (c.takes_leave_states.ensures _ h c.args.c c.args.p word c.args.k c.requires.0 is
    (rw (← c.self.view_is) at c.requires.1) c.requires.2)
