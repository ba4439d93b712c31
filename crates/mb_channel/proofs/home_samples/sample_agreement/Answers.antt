use Rattle.std.proofs.Common.{ℕ, zero, suc, Bool, [], ◌∷◌, ◌≡◌, ◌≤◌, length, refl, sym, ap, ◌∙◌, subst, inl, ⊎_elim}
use Rattle.std.proofs.Common.{arith, if◌then◌else◌, ne_eqb}
use mathlib.Core.Option.{some, some-injective, some-ne-none}
use lib.ListN.{get_elem?}
use Rattle.mb_channel.specs.Types.{Home}
use Rattle.mb_channel.specs.LifeSamples.{two_sent}
use Rattle.mb_channel.specs.HomeSamples.{one_visit}
use Rattle.mb_channel.specs.Homes.{At, IsDone, came_back, made_in}
use Rattle.mb_channel.proofs.home_samples.sample_agreement.Goals as goal

hub_knows : (h : Home ℕ) → came_back h ≡ two_sent ∷ [] → (k : ℕ) (x : Home ℕ) → get_elem? (h ∷ []) k ≡ some x
    → came_back x ≡ made_in k one_visit
hub_knows h e zero x at = subst (λ y. came_back y ≡ two_sent ∷ []) (some-injective h x at) e
hub_knows h e (suc k) x at = absurd (some-ne-none x (sym at))

none_behind : (k : ℕ) → 1 ≤ k → made_in k one_visit ≡ []
none_behind k le = ap (λ (b : Bool). if b then two_sent ∷ [] else []) (ne_eqb 0 k (λ q. omega (arith, le, q)))

first_done : (h g : Home ℕ) → At (h ∷ g ∷ []) 0 IsDone → IsDone h
first_done h g at = subst (λ x. IsDone x) (sym (some-injective h at.0 at.1)) at.2

pub returns-clause-known : goal.returns-clause-known
returns-clause-known c h e = record { here = hub_knows h e; none_behind = none_behind; turn = (inl refl, tt) }

pub returns-clause-unknown : goal.returns-clause-unknown
returns-clause-unknown c h e a = let n = ap length (sym e ∙ a.here 0 h refl) in absurd (omega (arith, n))

pub returns-clause-early : goal.returns-clause-early
returns-clause-early c h g no_ a = ⊎_elim (λ e. let n = ap length e in absurd (omega (arith, n)))
    (λ next. no_ (first_done h g (next 0 (omega arith)))) a.turn.0
