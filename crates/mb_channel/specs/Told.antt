-- What the theorem lists of the ends, and what their logs have.
use Rattle.std.specs.Prelude.{ℕ, ◌≡◌, ◌<◌, ◌+◌, All, List, ◌∷◌, map}
use Rattle.mb_channel.specs.declared.place.Place.{Place}
use Rattle.mb_channel.specs.ChannelTheorem.{End, Spot}
use Rattle.mb_channel.specs.Types.{Home, Knows}
use Rattle.mb_channel.specs.Deeds.{Deed, IsUpTo, after}
use Rattle.mb_channel.specs.Homes.{AllPast, past_of}
use Rattle.mb_channel.specs.Lives.{end_in, start}
use Rattle.mb_channel.specs.Inside.{Log, log_of_past}

-- how many values were sent before this place, if its number is at most what was sent in its segment
abbrev pub index : {T : Type 0} → List (Home T) → Place → ℕ
index hs p = start hs p.segment + p.number

abbrev pub spot_of : {T : Type 0} → List (Home T) → Deed T → Spot T
spot_of hs d = record { at = index hs d.place; value = d.value }

-- whatever lies behind the call's place comes after it in the one order
abbrev pub KeepsOrder : {T : Type 0} → List (Home T) → Deed T → Type 0
KeepsOrder hs d = (q : Place) → IsUpTo (after d.place) q → index hs d.place < index hs q

-- the calls by which the end sent and received, by the theorem, are those of the log
pub record TellsLog {T : Type 0} (hs : List (Home T)) (e : End T) (l : Log T) : Type 0 where
  pub sends : map (λ c. c.spot) e.sends ≡ map (spot_of hs) l.sent
  pub takes : map (λ c. c.spot) e.takes ≡ map (spot_of hs) l.got
  pub sent : All (KeepsOrder hs) l.sent
  pub got : All (KeepsOrder hs) l.got

-- so of the last end and of those that were given back to it
abbrev pub AllTell : {T : Type 0} → Knows T → List (Home T) → Type 0
AllTell v hs = AllPast (λ p. TellsLog hs (end_in v hs p.number) (log_of_past p)) (past_of v ∷ v.ended)
