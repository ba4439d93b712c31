use Rattle.std.proofs.Common.{refl}
use Rattle.mb_bounded.proofs.Refused.{before, phantom}
use Rattle.mb_bounded.proofs.samples.sample_counts.Goals as goal

pub returns-clause-counted : goal.returns-clause-counted
returns-clause-counted c = λ d v. (d, refl, refl, refl)

pub returns-clause-before : goal.returns-clause-before
returns-clause-before c = before

pub returns-clause-phantom : goal.returns-clause-phantom
returns-clause-phantom c = phantom
