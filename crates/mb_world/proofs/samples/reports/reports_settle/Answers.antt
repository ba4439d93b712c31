-- Proof of `samples::reports::reports_settle`: a report that is settled.
use Rattle.mb_world.specs.ReportSamples.{first_to, taken_and_lost}
use Rattle.mb_world.proofs.samples.reports.reports_settle.Goals as goal

pub returns : goal.returns
returns c =
    c.agreeing_reports_are_settled.ensures (first_to 0) taken_and_lost c.reports_agree.ensures
