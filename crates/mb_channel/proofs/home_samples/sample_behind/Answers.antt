use Rattle.std.proofs.Common.{ℕ, ap, arith, refl, sym, true≢false, ◌∙◌}
use Rattle.std.specs.Prelude.{None, Option, Some}
use Rattle.mb_channel.proofs.home_samples.sample_behind.Goals as goal

pub returns-clause-closed : goal.returns-clause-closed
returns-clause-closed c = (refl, λ q. absurd (true≢false q))

abbrev number_in : Option ℕ → ℕ
number_in None = 0
number_in (Some n) = n

pub returns-clause-before : goal.returns-clause-before
returns-clause-before c knows = let e = ap number_in knows.0 in absurd (omega (arith, e))

pub returns-clause-open_ : goal.returns-clause-open_
returns-clause-open_ c knows = true≢false (sym (knows.1 refl).0)

pub returns-clause-told : goal.returns-clause-told
returns-clause-told c e b = (b, e.ended b)

pub returns-clause-untold : goal.returns-clause-untold
returns-clause-untold c e b is = true≢false (sym is.0 ∙ b)
