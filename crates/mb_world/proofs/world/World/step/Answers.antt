-- Proof of `World::step`: makes the next access of consumer `c` on lane `p`, with this random word.
use Rattle.std.proofs.Common.{◌∙◌}
use Rattle.mb_world.proofs.ClaimNotes.{place_found}
use Rattle.mb_world.proofs.world.World.step.Goals as goal

-- the place that was read holds a claim that is not won
pub compete-requires : goal.compete-requires
compete-requires g c =
    let asked = rw (← c.self.view_is) at c.requires in
    let has = place_found _ _ c.self.invariant.1 c.args.c c.args.p c.producers.result asked.consumer asked.lane
    c.producers.ensures c.index.result.now c.index.ensures in
    (c.in-At.claim, rw (← c.self.view_is, ← c.in-At.is) has, λ e. c.in_default.not-Won (c.stage.ensures ∙ e))
