-- Proof of `World::report`: what was put, what was taken and what is left: the report of every history that leaves this
-- world.
use Rattle.std.proofs.Common.{◌≢◌, []}
use Rattle.mb_claim.specs.Layouts.{kinds_of, pair_count, shape_of}
use Rattle.mb_deciding.specs.Spread.{spread}
use Rattle.mb_world.specs.Plan.{consumers_of}
use Rattle.mb_world.specs.Setups.{plan_in}
use Rattle.mb_world.specs.Theorem.{ReportView}
use Rattle.mb_world.specs.World.{histories_of}
use Rattle.mb_world.proofs.FreshClaims.{fresh_goes, some_row}
use Rattle.mb_world.proofs.StateReports.{report_is}
use Rattle.mb_world.proofs.world.World.report.Goals as goal

-- the report that the state tells is the report of each history that leaves the world
pub returns-clause-exact : goal.returns-clause-exact
returns-clause-exact g c h is =
    let s = c.args.self.now in
    let plan = plan_in s.setup in
    let table = c.layouts_are_sound.ensures.table s.setup.layout in
    let sound = c.worlds_are_sound.ensures.sound plan h table is.lawful in
    let known = c.worlds_are_known.ensures plan h table sound.pool_lawful in
    let some : kinds_of s.setup.layout ≢ [] =
    some_row (shape_of s.setup.layout) (spread (consumers_of plan)) (pair_count s.setup.layout)
    (c.layouts_are_sound.ensures.some s.setup.layout) in
    report_is s h is known sound
    (fresh_goes plan.claims table c.objects_keep_their_promises.ensures some)
    (record { lanes = c.in_ok-lanes.field-0.items; diaries = c.in_ok-diaries.field-0.items })
    c.in_ok-lanes.ensures c.in_ok-diaries.ensures

-- the main theorem holds of the report, since the quorum table and the history that leaves the world are lawful
pub returns-clause-main_theorem : goal.returns-clause-main_theorem
returns-clause-main_theorem g c h is =
    let s = c.args.self.now in
    c.worlds_are_sound.ensures.main_theorem (plan_in s.setup) h
    (record { lanes = c.in_ok-lanes.field-0.items; diaries = c.in_ok-diaries.field-0.items })
    (c.layouts_are_sound.ensures.table s.setup.layout) is.lawful (returns-clause-exact g c h is)

-- if the setup's shape has a last object, so has each cell of its plan, and the law of last objects holds of the report
pub returns-clause-settled : goal.returns-clause-settled
returns-clause-settled g c last =
    let s = c.args.self.now in
    let h = c.has_history.ensures.0 in
    let is = c.has_history.ensures.1 in
    let plan = plan_in s.setup in
    let r : ReportView =
    record { lanes = c.in_ok-lanes.field-0.items; diaries = c.in_ok-diaries.field-0.items } in
    let has = c.shaped_setups_have_last_objects.ensures.setups s.setup last in
    let sound =
    c.worlds_are_sound.ensures.sound plan h (c.layouts_are_sound.ensures.table s.setup.layout) is.lawful in
    let told = returns-clause-exact g c h is in (
      c.last_objects_settle_items.ensures.beside plan (histories_of h) r has sound told,
      c.last_objects_settle_items.ensures.taken plan (histories_of h) r has sound told,
    )
