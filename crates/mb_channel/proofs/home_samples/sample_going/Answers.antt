use Rattle.std.proofs.Common.{ℕ, zero, suc, [], ◌∷◌, refl, sym, subst, inl, ⊎_elim, arith}
use mathlib.Core.Option.{some-injective}
use Rattle.mb_channel.specs.Types.{Home}
use Rattle.mb_channel.specs.Homes.{At, IsDone, IsNext}
use Rattle.mb_channel.proofs.home_samples.sample_going.Goals as goal

next_one : (h : Home ℕ) → IsDone h → IsNext (h ∷ []) 1
next_one h done zero below = (h, refl, done)
next_one h done (suc j) below = absurd (omega (arith, below))

first_done : (h : Home ℕ) → At (h ∷ []) 0 IsDone → IsDone h
first_done h at = subst (λ x. IsDone x) (sym (some-injective h at.0 at.1)) at.2

pub returns-clause-last : goal.returns-clause-last
returns-clause-last c h g = inl refl

pub returns-clause-done : goal.returns-clause-done
returns-clause-done c h done = next_one h done

pub returns-clause-middle : goal.returns-clause-middle
returns-clause-middle c h g to = ⊎_elim (λ e. absurd (omega (arith, e)))
    (λ p. let e = p.0 in absurd (omega (arith, e))) to

pub returns-clause-undone : goal.returns-clause-undone
returns-clause-undone c h no_ next = no_ (first_done h (next 0 (omega arith)))
