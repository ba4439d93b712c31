use Rattle.std.proofs.Common.{[], ◌∷◌, true, false, refl, arith, inr, sym, ⊎_elim, true≢false}
use Rattle.mb_channel.specs.ChannelSamples.{entry, last, sleepers}
use Rattle.mb_channel.proofs.samples.sample_sleep.Goals as goal

pub returns-clause-overslept : goal.returns-clause-overslept
returns-clause-overslept c e = let r =
    e.awake (last (entry 0 11 ∷ []) false (sleepers 1 0 0 0)) (1, omega arith, refl) (omega arith) in
    ⊎_elim (λ l. absurd (omega (arith, l))) (λ l. absurd (omega (arith, l.1))) r

pub returns-clause-elsewhere : goal.returns-clause-elsewhere
returns-clause-elsewhere c e = let r =
    e.awake (last (entry 0 11 ∷ []) false (sleepers 1 0 0 0)) (1, omega arith, refl) (omega arith) in
    ⊎_elim (λ l. absurd (omega (arith, l))) (λ l. absurd (omega (arith, l.1))) r

pub returns-clause-past_the_end : goal.returns-clause-past_the_end
returns-clause-past_the_end c e = let r =
    e.awake (last [] true (sleepers 1 0 0 0)) (0, omega arith, refl) (omega arith) in
    ⊎_elim (λ l. absurd (omega (arith, l))) (λ l. absurd (true≢false l.0)) r

pub returns-clause-through_the_end : goal.returns-clause-through_the_end
returns-clause-through_the_end c e =
    let r = e.ended (inr refl) in
    ⊎_elim (λ l. absurd (omega (arith, l))) (λ a. absurd (true≢false (sym (a 0 (last [] false (sleepers 1 0 0 0))
    (omega arith))))) r
