-- Proof of `samples::last_objects_stand_alone`: histories with a last object alone: a lawful one, and one that is not.
use Rattle.mb_claim.proofs.LastSamples.{alone_lawful, both_empty_refused}
use Rattle.mb_claim.proofs.samples.last_objects_stand_alone.Goals as goal

pub returns-clause-lawful : goal.returns-clause-lawful
returns-clause-lawful c = alone_lawful

pub returns-clause-empty : goal.returns-clause-empty
returns-clause-empty c = both_empty_refused
