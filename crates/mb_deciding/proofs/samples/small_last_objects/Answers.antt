-- Proof of `samples::small_last_objects`: small histories of a last object.
use Rattle.std.proofs.Common.{refl}
use Rattle.mb_deciding.proofs.SmallLasts.{first_lawful, empty_refused, torn_refused, met_output}
use Rattle.mb_deciding.proofs.samples.small_last_objects.Goals as goal

pub returns-clause-lawful : goal.returns-clause-lawful
returns-clause-lawful c = first_lawful

pub returns-clause-left : goal.returns-clause-left
returns-clause-left c = refl

pub returns-clause-empty : goal.returns-clause-empty
returns-clause-empty c = empty_refused

pub returns-clause-torn : goal.returns-clause-torn
returns-clause-torn c = torn_refused

pub returns-clause-met : goal.returns-clause-met
returns-clause-met c = met_output
