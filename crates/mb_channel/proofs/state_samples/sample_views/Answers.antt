use Rattle.std.proofs.Common.{ℕ, zero, suc, List, [], ◌∷◌, ap, arith, refl, sym, if◌then◌else◌, true, true≢false, ◌≡◌, ◌∙◌}
use mathlib.Core.Option.{some, some-injective, some-ne-none}
use lib.ListN.{get_elem?}
use Rattle.std.specs.Prelude.{◌&&◌}
use Rattle.mb_channel.specs.Types.{Knows}
use Rattle.mb_channel.specs.Homes.{first_view, total}
use Rattle.mb_channel.specs.HomeSamples.{told_none}
use Rattle.mb_channel.specs.States.{all_done, knows_last, knows_shut, some_view}
use Rattle.mb_channel.proofs.state_samples.sample_views.Goals as goal

abbrev closers_of : List (Knows ℕ) → ℕ
closers_of vs = if some_view knows_last vs then 0 else total (λ v. if knows_shut v then 1 else 0) vs

pub returns-clause-new_ : goal.returns-clause-new_
returns-clause-new_ c s k now a is = (
  ap closers_of is,
  ap (λ vs. some_view knows_last vs && all_done k.homes) is,
  ap (λ vs. some_view (λ v. v.shut) vs) is,
)

pub returns-clause-closer : goal.returns-clause-closer
returns-clause-closer c s k now a is = ap closers_of is

pub returns-clause-cut : goal.returns-clause-cut
returns-clause-cut c s k now a is = (ap closers_of is, ap (λ vs. some_view (λ v. v.shut) vs) is)

pub returns-clause-remembered : goal.returns-clause-remembered
returns-clause-remembered c = record {
  closer = λ _. (0, told_none, refl, refl);
  loner = λ z. absurd (omega (arith, z));
}

not_shut : (j : ℕ) (v : Knows ℕ) → get_elem? (first_view ∷ []) j ≡ some v → v.shut ≡ true → ⊥
not_shut zero v at is = true≢false (sym is ∙ ap (λ (z : Knows ℕ). z.shut) (sym (some-injective first_view v at)))
not_shut (suc j) v at is = some-ne-none v (sym at)

pub returns-clause-forgotten : goal.returns-clause-forgotten
returns-clause-forgotten c r = let x = r.closer refl in not_shut x.0 x.1 x.2 x.3
