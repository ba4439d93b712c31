-- Proof of `laws::agreeing_reports_are_settled`: a report that agrees with an assignment is settled: an item that was
-- competed for is left only if a competitor neither took nor lost it.
use Rattle.mb_world.proofs.Settled.{settled}
use Rattle.mb_world.proofs.laws.agreeing_reports_are_settled.Goals as goal

pub returns : goal.returns
returns c t r agrees = settled t r agrees
