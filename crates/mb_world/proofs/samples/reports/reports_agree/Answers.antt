-- Proof of `samples::reports::reports_agree`: a report that agrees with an assignment.
use Rattle.mb_world.proofs.AgreeingReports.{taken_agrees}
use Rattle.mb_world.proofs.samples.reports.reports_agree.Goals as goal

pub returns : goal.returns
returns c = taken_agrees
