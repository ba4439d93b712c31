-- Proof of `World::diaries`: the diaries of all consumers on all lanes.
use Rattle.std.proofs.Common.{◌∙◌, ap, subst, ◌<◌}
use Rattle.mb_world.specs.Setups.{plan_in}
use Rattle.mb_world.specs.WorldState.{WorldState}
use Rattle.mb_world.proofs.StateLists.{diaries_more}
use Rattle.mb_world.proofs.world.World.diaries.Goals as goal

-- if the state tells the diaries so far, it tells these and the next one
pub loop-p-preserved : goal.loop-p-preserved
loop-p-preserved g c =
    let s = c.args.self.now in
    let inside : c.loop-p.p < (plan_in s.setup).lanes =
    subst (λ n. c.loop-p.p < n)
    (c.producers-lanes.ensures ∙ ap (λ (w : WorldState). (plan_in w.setup).lanes) c.self.view_is)
    c.loop-p-test.true in
    rw (c.in_ok-push.ensures.items)
    (diaries_more s c.loop-c.c c.loop-p.p c.in_ok-diary.field-0 c.loop-p.diaries.items inside c.loop-p.invariant
    c.in_ok-diary.ensures)
