-- Proof of `World::apply`: makes the one access that the event asks for, or none if the event is refused.
use Rattle.std.proofs.Common.{sym, ◌∙◌, subst}
use Rattle.mb_world.specs.declared.event.Event.{Event}
use Rattle.mb_world.specs.declared.event.Event.TheVariants as event
use Rattle.mb_world.specs.declared.setup.Setup.{Setup}
use Rattle.mb_world.specs.Replay.{HasAnswer, IsRefused}
use Rattle.mb_world.specs.Setups.{layout_of, plan_in}
use Rattle.mb_world.proofs.world.World.apply.Goals as goal

-- a finish that is refused changes nothing
pub returns-then-lane-producers-3-clause-kept : goal.returns-then-lane-producers-3-clause-kept
returns-then-lane-producers-3-clause-kept g c h is refused =
    c.finish.ensures.kept h is
    (subst (λ (e : Event). IsRefused (plan_in c.args.self.now.setup) e c.finish.result h) c.in-Finish.is refused)

-- a step finds nothing exactly if there is nothing for its consumer on its lane
pub returns-else-consumer-consumers-clause-nothing : goal.returns-else-consumer-consumers-clause-nothing
returns-else-consumer-consumers-clause-nothing g c h d p word is same =
    let setup = c.args.self.now.setup in
    let made = c.step.ensures.adds h is in
    let entry = subst (λ (e : Event). HasAnswer (plan_in setup) e c.step.result made.access h) (sym c.in-Step.is ∙ same)
    (subst (λ (z : Setup). HasAnswer (plan_in z)
    (event.Step c.in-Step.consumer c.in-Step.lane c.in-Step.word) c.step.result
    made.access h) c.step.ensures.setup made.entry) in
    c.nothing_is_exact.ensures (plan_in setup) h d p word c.step.result made.access
    (c.layouts_are_sound.ensures.table (layout_of setup)) is.lawful entry
