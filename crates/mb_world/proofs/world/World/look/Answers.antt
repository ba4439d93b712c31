-- Proof of `World::look`: consumer `c` holds no claim on lane `p`: it loads the link at the cursor.
use Rattle.std.proofs.Common.{[], sym, ◌∙◌, subst}
use Rattle.mb_claim.specs.OneClaim.{IsClaimIn}
use Rattle.mb_claim.specs.declared.layout.Layout.{Layout}
use Rattle.mb_world.specs.World.{pool_accesses}
use Rattle.mb_world.proofs.StateSteps.{still_sound}
use Rattle.mb_world.proofs.world.World.look.Goals as goal

-- the link at the cursor is a word of the pool
pub look-look-requires : goal.look-look-requires
look-look-requires g c =
    c.looks_leave_states.ensures.within _ _ c.args.c c.args.p c.args.cursor c.self.invariant.1
    (rw (← c.self.view_is) at c.requires)

-- the world is sound after the look
pub invariant_of-self : goal.invariant_of-self
invariant_of-self g c =
    let h = c.self.invariant.0 in
    let is = c.self.invariant.1 in
    let found = sym (c.look-look.ensures.after (pool_accesses h) is.pool) ∙ c.in-Cell.is in
    rw (c.producers.ensures)
    (still_sound _ _ _ h (c.looks_leave_states.ensures.found _ h c.args.c c.args.p 0 c.in-Cell.cell c.args.cursor
    c.new-claim.result is (rw (← c.self.view_is) at c.requires) found c.new-claim.ensures.consumer
    c.new-claim.ensures.going
    (subst (λ (l : Layout). IsClaimIn l c.new-claim.result []) c.as_layout.ensures c.new-claim.ensures.path)))
