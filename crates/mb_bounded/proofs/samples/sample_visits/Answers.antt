use Rattle.std.proofs.Common.{arith, refl}
use Rattle.mb_bounded.proofs.Refused.{not_hired, split_off, there}
use Rattle.mb_bounded.proofs.samples.sample_visits.Goals as goal

pub returns-clause-hired : goal.returns-clause-hired
returns-clause-hired c = λ d e v more same. (refl, more, omega arith)

pub returns-clause-not_hired : goal.returns-clause-not_hired
returns-clause-not_hired c = not_hired

pub returns-clause-retired : goal.returns-clause-retired
returns-clause-retired c = λ d e v fewer same. (refl, fewer, omega arith)

pub returns-clause-split_off : goal.returns-clause-split_off
returns-clause-split_off c = split_off

pub returns-clause-away : goal.returns-clause-away
returns-clause-away c = λ e. ((refl, refl), refl)

pub returns-clause-there : goal.returns-clause-there
returns-clause-there c = there
