use Rattle.std.proofs.Common.{ℕ, zero, suc, ap, arith, refl, sym, true≢false, ◌∷◌, [], ◌∙◌}
use Rattle.std.specs.Prelude.{is_some}
use mathlib.Core.Option.{some-injective, some-ne-none}
use Rattle.mb_channel.specs.HomeSamples.{adder, told_none}
use Rattle.mb_channel.specs.Homes.{NobodyTold}
use Rattle.mb_channel.specs.Types.{Knows}
use Rattle.mb_channel.proofs.home_samples.sample_adding.Goals as goal

nobody : NobodyTold (adder ∷ [])
nobody zero v at = ap (λ (z : Knows ℕ). z.last) (sym (some-injective adder v at))
nobody (suc j) v at = absurd (some-ne-none v (sym at))

pub returns-clause-open_ : goal.returns-clause-open_
returns-clause-open_ c = record {
  is_open = λ _. (refl, omega arith);
  may_add = λ _. (refl, nobody);
  alone = λ q. absurd (true≢false (sym q));
  shut = λ q. absurd (true≢false (sym q));
  over = λ _ j lt. absurd (omega (arith, lt));
  last = λ n q. absurd (true≢false (ap is_some (sym q)));
}

pub returns-clause-closed : goal.returns-clause-closed
returns-clause-closed c fits = let lt = (fits.is_open refl).1 in absurd (omega (arith, lt))

pub returns-clause-unseen : goal.returns-clause-unseen
returns-clause-unseen c v may not_ fits = true≢false (sym (fits.may_add may).0 ∙ not_)

pub returns-clause-told : goal.returns-clause-told
returns-clause-told c fits = let n = (fits.may_add refl).1 1 told_none refl in true≢false (ap is_some n)
