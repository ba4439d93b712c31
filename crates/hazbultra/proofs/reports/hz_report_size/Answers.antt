-- Proof of `hz_report_size`: writes how many lanes a report has, and how many consumers.
use Rattle.std.proofs.Common.{◌≡◌, ◌∙◌, Some, length, rules, subst, sym}
use Rattle.hazbultra.specs.Calls.{ReportHas}
use Rattle.hazbultra.specs.Reports.{HasConsumers}
use Rattle.hazbultra.specs.declared.thing.Thing.TheVariants.{OfReport}
use Rattle.hazbultra.proofs.Diaries.{consumers_told}
use Rattle.hazbultra.proofs.reports.hz_report_size.Goals as goal

-- the number written is the quotient of the counts of diaries and lanes, which is the number of consumers
pub returns-in-OfReport-clause-consumers : goal.returns-in-OfReport-clause-consumers
returns-in-OfReport-clause-consumers c = λ done.
    let r = c.in-OfReport.told in
    let there : c.args.report.now.block.thing ≡ Some (OfReport r) = search rules in
    let lanes : c.len-count.result ≡ length r.lanes = search rules in
    let diaries : c.len.result ≡ length r.diaries = search rules in
    subst (ReportHas (λ r. (n : _) → HasConsumers n r → c.unwrap_or.result ≡ n)) (sym there)
    (λ n has. c.unwrap_or.ensures
    ∙ consumers_told n r c.checked_div.result c.len.result c.len-count.result has diaries lanes
    c.checked_div.ensures)
