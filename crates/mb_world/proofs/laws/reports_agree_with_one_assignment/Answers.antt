-- Proof of `laws::reports_agree_with_one_assignment`: a report agrees with at most one assignment, compared lane by
-- lane and position by position.
use Rattle.mb_world.proofs.Settled.{unique}
use Rattle.mb_world.proofs.laws.reports_agree_with_one_assignment.Goals as goal

pub returns : goal.returns
returns c t u r agrees other p j = unique t u r agrees other p j
