-- Proof of `report_of`: the report of a mailbox whose producers have put all their items.
use Rattle.std.proofs.Common.{◌∙◌, Err, ap, arith}
use Rattle.std.proofs.lemmas.Result.{IfOk-at_ok}
use Rattle.mb_world.specs.Plan.{size_of}
use Rattle.mb_program.proofs.RunEnds.{refuses_by}
use Rattle.mb_program.proofs.RunReports.{asks_enough, nothing_missing, ok_value, run_report}
use Rattle.mb_program.proofs.ReportedRuns.{reported_run, words_given}
use Rattle.mb_program.proofs.run.report_of.Goals as goal

pub report_after-requires-clause-numbers : goal.report_after-requires-clause-numbers
report_after-requires-clause-numbers g c =
    λ is. asks_enough c.args.options c.in_ok-mailbox.mailbox c.in_ok-mailbox.hub _ _
    (c.in_ok-mailbox.ensures.plan ∙ c.in_ok-setup.ensures.made)
    c.in_ok-mailbox.ensures.empty c.in_ok-lists.ensures.producers c.in_ok-lists.ensures.consumers
    (c.work-worked.ensures.all_given.0 is)

pub report_after-requires-clause-budget : goal.report_after-requires-clause-budget
report_after-requires-clause-budget g c =
    λ is. let none = (c.work-worked.ensures.bad_budget.0 is).0 in
    let same = c.in_ok-lists.ensures.budget in
    let some = c.requires.budget in
    omega (arith, none, same, some)

-- all workers came back with what the hub issued
pub report_after-requires-clause-all : goal.report_after-requires-clause-all
report_after-requires-clause-all g c =
    λ ok. ok_value _ _ c.work-worked.result ok c.work-worked.ensures.worked (λ w is.
    nothing_missing c.in_ok-mailbox.mailbox c.in_ok-mailbox.hub c.work-worked.new.hub _ _ w
    c.in_ok-mailbox.ensures.empty is)

pub returns-in_err-report-clause-refused : goal.returns-in_err-report-clause-refused
returns-in_err-report-clause-refused g c =
    refuses_by c.args.options c.in_ok-setup.setup c.in_err-report.field-0.0 _ c.in_ok-setup.ensures.refused
    c.from_residual-in_err-report.ensures.1 (λ why same. c.in_err-report.ensures.refusal why (ap (λ f. Err f) same))

pub returns-clause-report : goal.returns-clause-report
returns-clause-report g c =
    let ran = c.in_ok-report.ensures.worked in
    run_report _ (λ w n stops. stops) c.args.options c.in_ok-mailbox.mailbox c.in_ok-mailbox.hub
    c.work-worked.new.hub c.in_ok-report.report _ _ c.in_ok-report.field-0-0
    c.in_ok-setup.ensures.few c.in_ok-lists.ensures.budget (c.in_ok-mailbox.ensures.plan ∙ c.in_ok-setup.ensures.made)
    (c.in_ok-mailbox.ensures.size ∙ ap size_of c.in_ok-setup.ensures.made)
    c.in_ok-mailbox.ensures.empty c.in_ok-lists.ensures.lists c.in_ok-lists.ensures.consumers
    (IfOk-at_ok _ ran c.work-worked.ensures.worked) c.work-worked.ensures.belongs
    c.in_ok-report.ensures.lists c.in_ok-report.ensures.main_theorem c.in_ok-report.ensures.full
    (reported_run c.args.options c.in_ok-mailbox.mailbox c.in_ok-mailbox.hub c.work-worked.new.hub
    c.in_ok-report.report c.in_ok-report.field-0-0
    c.in_ok-lists.ensures.budget (c.in_ok-mailbox.ensures.plan ∙ c.in_ok-setup.ensures.made)
    (c.in_ok-mailbox.ensures.size ∙ ap size_of c.in_ok-setup.ensures.made)
    c.in_ok-mailbox.ensures.empty c.in_ok-lists.ensures.lists
    (words_given c.args.options _ c.in_ok-lists.ensures.words)
    c.work-worked.ensures.belongs (IfOk-at_ok _ ran c.work-worked.ensures.called)
    c.in_ok-report.ensures.lists c.in_ok-report.ensures.main_theorem c.in_ok-report.ensures.full)
