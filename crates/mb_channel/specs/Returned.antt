-- What a receiver that gives a value back has of the sender that it makes for that.
use Rattle.std.specs.Prelude.{ℕ, ◌≡◌, ◌⊎◌, ◌++◌, ◌∷◌, List, []}
use Rattle.mb_channel.specs.declared.place.Place.{Place}
use Rattle.mb_channel.specs.Deeds.{IsUpTo}
use Rattle.mb_channel.specs.Inside.{Log}

-- the log of a new end, which did nothing
abbrev pub new_log : {T : Type 0} → ℕ → ℕ → Log T
new_log number name = record { number = number; name = name; sent = []; got = [] }

-- one log more, of an end of this name that sent x, not before what the receiver knew, and did nothing else
pub record OneReturned {T : Type 0} (x : T) (name : ℕ) (knew : Place) (ls ms : List (Log T)) : Type 0 where
  pub number : ℕ
  pub place : Place
  pub more : ms ≡ ls ++ record (new_log number name) { sent = record { place = place; value = x } ∷ [] } ∷ []
  pub behind : IsUpTo knew place

-- no log more, or one of an end that did nothing
abbrev pub NoneReturned : {T : Type 0} → ℕ → List (Log T) → List (Log T) → Type 0
NoneReturned name ls ms = (ms ≡ ls) ⊎ ((n : ℕ) × (ms ≡ ls ++ new_log n name ∷ []))
