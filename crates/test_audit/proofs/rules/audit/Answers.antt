-- The loop over the lanes of a report keeps its invariant, since the tally of a lane counts its items.
use Rattle.std.proofs.Common.{ap, arith, rules, ◌∙◌, ◌≡◌, ◌<◌, ◌≤◌, length, slice_index_or, subst}
use Rattle.std.proofs.lemmas.Grind.{common_steps}
use Rattle.std.proofs.lemmas.List.Elements.{All-more}
use Rattle.mb_world.specs.Theorem.{LaneView, ReportView}
use Rattle.test_audit.proofs.rules.audit.Goals as goal

pub loop-number-preserved : goal.loop-number-preserved
loop-number-preserved g c =
    let lanes = c.args.report.now.lanes in
    let lane = c.lane-item.result in
    let items : c.deref-lane-items.result.now ≡ lanes =
    c.deref-lane-items.ensures.value ∙ ap (λ (r : ReportView). r.lanes) c.report.view_is in
    let within : c.loop-number.number < length lanes = rw (← items) c.loop-number-test.true in
    let here : lane ≡ slice_index_or lanes c.loop-number.number lane = rw (← items) c.lane-item.is in
    let told = c.in_ok-audit_lane.ensures in
    let few : length lane.left ≤ length lane.put = omega (arith, told.put, told.left, told.took) in (
      grind (arith, common_steps),
      grind (arith, common_steps),
      search rules,
      All-more (λ (l : LaneView). length l.left ≤ length l.put) lanes c.loop-number.number lane
          within c.loop-number.invariant.3
          (subst (λ (l : LaneView). length l.left ≤ length l.put) here few),
    )
