use Rattle.std.proofs.Common.{ℕ, List, [], ◌∷◌, ap, arith, inl, inr, refl, subst, sym, ⊎_elim}
use Rattle.mb_channel.specs.declared.place.Place.{Place}
use Rattle.mb_channel.specs.Deeds.{Deed, IsUpTo}
use Rattle.mb_channel.specs.HomeSamples.{place}
use Rattle.mb_channel.proofs.home_samples.sample_places.Goals as goal

pub returns-clause-earlier : goal.returns-clause-earlier
returns-clause-earlier c = inl (omega arith)

pub returns-clause-later : goal.returns-clause-later
returns-clause-later c up = ⊎_elim (λ l. absurd (omega (arith, l))) (λ l. let e = l.0 in absurd (omega (arith, e))) up

not_beyond : IsUpTo (place 1 4) (place 1 3) → ⊥
not_beyond up = ⊎_elim (λ l. absurd (omega (arith, l))) (λ l. let e = l.1 in absurd (omega (arith, e))) up

pub returns-clause-beyond : goal.returns-clause-beyond
returns-clause-beyond c up = not_beyond up

pub returns-clause-next : goal.returns-clause-next
returns-clause-next c = record {
  place = place 1 3;
  more = refl;
  behind = inr (refl, omega arith);
  known = inr (refl, omega arith);
}

abbrev first_place : List (Deed ℕ) → Place
first_place [] = place 0 0
first_place (d ∷ ds) = d.place

pub returns-clause-known : goal.returns-clause-known
returns-clause-known c one =
    not_beyond (subst (λ p. IsUpTo (place 1 4) p) (sym (ap first_place one.more)) one.behind)
