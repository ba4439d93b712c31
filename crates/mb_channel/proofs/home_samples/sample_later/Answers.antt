use Rattle.std.proofs.Common.{arith, inr, refl, ⊎_elim}
use Rattle.mb_channel.proofs.home_samples.sample_later.Goals as goal

pub returns-clause-same : goal.returns-clause-same
returns-clause-same c v = (omega arith, inr (refl, omega arith, omega arith, omega arith))

pub returns-clause-back : goal.returns-clause-back
returns-clause-back c v w lt later = ⊎_elim (λ l. absurd (omega (arith, lt, l)))
    (λ l. let e = l.0 in absurd (omega (arith, lt, e))) later.1

pub returns-clause-forgot : goal.returns-clause-forgot
returns-clause-forgot c v w same lt later = ⊎_elim (λ l. absurd (omega (arith, same, l)))
    (λ l. let k = l.2 in absurd (omega (arith, lt, k))) later.1

pub returns-clause-forgot_takes : goal.returns-clause-forgot_takes
returns-clause-forgot_takes c v w same lt later = ⊎_elim (λ l. absurd (omega (arith, same, l)))
    (λ l. let k = l.3 in absurd (omega (arith, lt, k))) later.1
