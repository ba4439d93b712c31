use Rattle.std.proofs.Common.{ℕ, List, [], ◌∷◌, ◌++◌, ◌≡◌, ◌<◌, length, refl, sym, ap, subst, arith}
use mathlib.Core.Option.{some-injective}
use lib.ListN.{get_elem?}
use Rattle.mb_channel.specs.Types.{Home}
use Rattle.mb_channel.specs.Homes.{AllHomes, IsDone, IsFreed}
use Rattle.mb_channel.proofs.home_samples.sample_standing.Goals as goal

first_done : (h : Home ℕ) (items gone : List (Home ℕ)) → h ∷ items ≡ gone ++ items → 0 < length gone
    → AllHomes IsFreed gone → IsDone h
first_done h items [] all some_ freed = absurd (omega arith)
first_done h items (g ∷ gs) all some_ freed =
    subst (λ x. IsDone x) (sym (some-injective h g (ap (λ (x : List (Home ℕ)). get_elem? x 0) all))) freed.0.done

none_gone : (h : Home ℕ) (items gone : List (Home ℕ)) → h ∷ items ≡ gone ++ items → length gone ≡ 0 → ⊥
none_gone h items [] all none_ = let n = ap length all in absurd (omega (arith, n))
none_gone h items (g ∷ gs) all none_ = absurd (omega (arith, none_))

pub returns-clause-freed : goal.returns-clause-freed
returns-clause-freed c h l is one = record { gone = h ∷ []; all = refl; number = sym one; freed = (is, tt) }

pub returns-clause-undone : goal.returns-clause-undone
returns-clause-undone c h l no_ one s = let n = s.number in
    no_ (first_done h l.list.items s.gone s.all (omega arith) s.freed)

pub returns-clause-lost : goal.returns-clause-lost
returns-clause-lost c h l none_ s = let n = s.number in none_gone h l.list.items s.gone s.all (omega arith)
