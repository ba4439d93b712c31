-- Calls that sent a value or received one, by their places, and how far an end knows.
use Rattle.std.specs.Prelude.{ℕ, suc, ◌≡◌, ◌<◌, ◌≤◌, ◌⊎◌, ◌++◌, ◌∷◌, List, [], map}
use Rattle.mb_channel.specs.declared.place.Place.{Place}
use Rattle.mb_channel.specs.Types.{Position}

-- p is q, or lies before it
abbrev pub IsUpTo : Place → Place → Type 0
IsUpTo p q = (p.segment < q.segment) ⊎ ((p.segment ≡ q.segment) × (p.number ≤ q.number))

-- the next place of the segment
abbrev pub after : Place → Place
after p = record p { number = suc p.number }

-- a call that sent this value to this place, or received it from there
pub record Deed (T : Type 0) : Type 0 where
  pub place : Place
  pub value : T

-- at a position of segment k
abbrev pub deed : {T : Type 0} → ℕ → Position T → Deed T
deed k s = record { place = record { segment = k; number = s.at }; value = s.value }

abbrev pub deeds_at : {T : Type 0} → ℕ → List (Position T) → List (Deed T)
deeds_at k = map (deed k)

-- one call more, with this value: at a place that is not before what the end knew, but before what it knows now
pub record OneMore {T : Type 0} (x : T) (knew knows : Place) (ds es : List (Deed T)) : Type 0 where
  pub place : Place
  pub more : es ≡ ds ++ record { place = place; value = x } ∷ []
  pub behind : IsUpTo knew place
  pub known : IsUpTo (after place) knows
