-- Proof of `samples::fast_paths_come_first`: histories with a fast path: a lawful one, and one that is not.
use Rattle.mb_claim.proofs.ShapedSamples.{fast_lawful, both_refused}
use Rattle.mb_claim.proofs.samples.fast_paths_come_first.Goals as goal

pub returns-clause-lawful : goal.returns-clause-lawful
returns-clause-lawful c = fast_lawful

pub returns-clause-skipped : goal.returns-clause-skipped
returns-clause-skipped c = both_refused
