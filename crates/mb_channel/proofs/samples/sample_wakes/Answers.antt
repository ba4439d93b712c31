use Rattle.std.proofs.Common.{arith, refl}
use Rattle.mb_channel.proofs.samples.sample_wakes.Goals as goal

pub returns-clause-told : goal.returns-clause-told
returns-clause-told c = refl

pub returns-clause-untold : goal.returns-clause-untold
returns-clause-untold c = refl

pub returns-clause-silent : goal.returns-clause-silent
returns-clause-silent c e = absurd (omega (arith, e))

pub returns-clause-needless : goal.returns-clause-needless
returns-clause-needless c e = absurd (omega (arith, e))
