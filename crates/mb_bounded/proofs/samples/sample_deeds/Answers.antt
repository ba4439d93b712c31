use Rattle.std.proofs.Common.{inr, refl}
use Rattle.mb_bounded.proofs.Refused.{another, busy, not_got, uncut}
use Rattle.mb_bounded.proofs.samples.sample_deeds.Goals as goal

pub returns-clause-sent : goal.returns-clause-sent
returns-clause-sent c = (0, refl)

pub returns-clause-another : goal.returns-clause-another
returns-clause-another c = another

pub returns-clause-got : goal.returns-clause-got
returns-clause-got c = (0, refl)

pub returns-clause-not_got : goal.returns-clause-not_got
returns-clause-not_got c = not_got

pub returns-clause-idle : goal.returns-clause-idle
returns-clause-idle c = refl

pub returns-clause-busy : goal.returns-clause-busy
returns-clause-busy c = busy

pub returns-clause-cut : goal.returns-clause-cut
returns-clause-cut c = (refl, inr refl)

pub returns-clause-uncut : goal.returns-clause-uncut
returns-clause-uncut c = uncut
