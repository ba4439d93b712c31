-- Each fate is that of a value which some end sent.
use Rattle.std.specs.Prelude.{ℕ, ◌≡◌, ◌⊎◌, List, None}
use Rattle.mb_segment.specs.Vocabulary.{name_in}
pub use Rattle.mb_segment.specs.declared.left.Fate.{Fate}
pub use Rattle.mb_channel.specs.declared.place.Place.{Place}
pub use Rattle.mb_channel.specs.Fates.{HasTaken, IsFateOf, IsTaken, IsTrue, gives_fates, is_fate, told_fates}
use Rattle.mb_channel.specs.Types.{Knows}
use Rattle.mb_channel.specs.Inside.{Log}
pub use Rattle.mb_channel.specs.Fates.{IsLog, IsOneOf}

-- some end sent a value at this place, and has the name that the fate tells. So is it of the end that received it, or the
-- fate tells no name of one
abbrev pub IsOwned : {T : Type 0} → List (Knows T) → ℕ → ℕ → Fate → Type 0
IsOwned {T} views k at x =
    ((l : Log T) × (y : T) × IsLog views l
    × IsOneOf (record { place = record { segment = k; number = at }; value = y }) l.sent
    × (x.sender ≡ name_in l.name))
    × ((x.receiver ≡ None) ⊎ ((l : Log T) × (y : T) × IsLog views l
    × IsOneOf (record { place = record { segment = k; number = at }; value = y }) l.got
    × (x.receiver ≡ name_in l.name)))
