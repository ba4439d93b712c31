use Rattle.std.proofs.Common.{ℕ, List, [], ◌∷◌, ap, arith, inr, length, refl, subst, sym, ⊎_elim}
use Rattle.mb_channel.specs.declared.place.Place.{Place}
use Rattle.mb_channel.specs.Deeds.{Deed, IsUpTo}
use Rattle.mb_channel.specs.Inside.{Log}
use Rattle.mb_channel.specs.HomeSamples.{place}
use Rattle.mb_channel.proofs.home_samples.sample_returned.Goals as goal

abbrev first_sent : List (Log ℕ) → List (Deed ℕ)
first_sent [] = []
first_sent (l ∷ ls) = l.sent

abbrev first_place : List (Deed ℕ) → Place
first_place [] = place 0 0
first_place (d ∷ ds) = d.place

pub returns-clause-next : goal.returns-clause-next
returns-clause-next c = record { number = 1; place = place 1 3; more = refl; behind = inr (refl, omega arith) }

pub returns-clause-idle : goal.returns-clause-idle
returns-clause-idle c = inr (1, refl)

not_beyond : IsUpTo (place 1 4) (place 1 3) → ⊥
not_beyond up = ⊎_elim (λ l. absurd (omega (arith, l))) (λ l. let e = l.1 in absurd (omega (arith, e))) up

pub returns-clause-known : goal.returns-clause-known
returns-clause-known c one = not_beyond (subst (λ p. IsUpTo (place 1 4) p)
    (sym (ap (λ ls. first_place (first_sent ls)) one.more)) one.behind)

pub returns-clause-lost : goal.returns-clause-lost
returns-clause-lost c one = let e = ap length one.more in absurd (omega (arith, e))

pub returns-clause-sent : goal.returns-clause-sent
returns-clause-sent c none = ⊎_elim (λ e. let f = ap length e in absurd (omega (arith, f)))
    (λ e. let f = ap (λ ls. length (first_sent ls)) e.1 in absurd (omega (arith, f))) none
