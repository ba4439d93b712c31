use Rattle.std.proofs.Common.{ap, arith, ⊎_elim}
use Rattle.mb_channel.specs.Inside.{found_there}
use Rattle.mb_channel.proofs.samples.sample_empty.Goals as goal

pub returns-clause-looked : goal.returns-clause-looked
returns-clause-looked c v w saw one = (saw, omega (arith, one))

pub returns-clause-before : goal.returns-clause-before
returns-clause-before c v saw = let l = saw.1 in absurd (omega (arith, l))

pub returns-clause-end : goal.returns-clause-end
returns-clause-end c e saw = let same = ap found_there saw.1 in
    ⊎_elim (λ l. let m = l.0 in absurd (omega (arith, m))) (λ l. let m = l.1 in absurd (omega (arith, m, same))) saw.3

pub returns-clause-none : goal.returns-clause-none
returns-clause-none c e f out one = (out, omega (arith, one))

pub returns-clause-stale : goal.returns-clause-stale
returns-clause-stale c e none = let l = none.1 in absurd (omega (arith, l))
