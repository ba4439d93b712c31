use Rattle.std.proofs.Common.{ℕ, ap, sym, refl, inl, inr, ⊎_elim, true≢false, arith}
use Rattle.mb_channel.specs.Types.{Knows}
use Rattle.mb_channel.proofs.samples.sample_told.Goals as goal

pub returns-clause-alone : goal.returns-clause-alone
returns-clause-alone c = inr (refl, refl)

pub returns-clause-sender : goal.returns-clause-sender
returns-clause-sender c e = ⊎_elim (λ q. true≢false (sym (ap (λ (v : Knows ℕ). v.shut) q)))
    (λ q. let none_ = q.1 in omega arith) e

pub returns-clause-shut : goal.returns-clause-shut
returns-clause-shut c = inl refl

pub returns-clause-neither : goal.returns-clause-neither
returns-clause-neither c e = ⊎_elim (λ q. true≢false (sym (ap (λ (v : Knows ℕ). v.shut) q)))
    (λ q. true≢false (sym (ap (λ (v : Knows ℕ). v.alone) q.0))) e
