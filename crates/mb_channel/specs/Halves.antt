-- An end between the two halves of a send or of a receive: where it is, what it did, and what it has still to do.
use Rattle.std.specs.Prelude.{ℕ, ◌≡◌, ◌+◌, ◌∷◌, List, None, Option, Some, [], is_some, true}
use Rattle.mb_segment.specs.Vocabulary.{spot, tokens_given}
use Rattle.mb_segment.specs.declared.view.Half.{Half}
use Rattle.mb_segment.specs.declared.view.Half.TheVariants.{Nothing, Reads, Writes}
use Rattle.mb_channel.specs.declared.begun.Begun.{Begun}
use Rattle.mb_channel.specs.declared.begun.Miss.{Miss}
use Rattle.mb_channel.specs.declared.begun.Miss.TheVariants as miss
use Rattle.mb_channel.specs.declared.busy.Debt.TheVariants as owed
use Rattle.mb_channel.specs.declared.halfway.Halfway.{Halfway}
use Rattle.mb_channel.specs.declared.place.Place.{Place}
use Rattle.mb_channel.specs.Begun.{half_in}
use Rattle.mb_channel.specs.Deeds.{Deed, deed}
use Rattle.mb_channel.specs.Ends.{Standing}
use Rattle.mb_channel.specs.Standing.{OneGot, OneSent, got_in, sent_in}
use Rattle.mb_channel.specs.Wakes.{Wakes, wakes}
use Rattle.mb_channel.specs.Work.{HasGot, HasSent, Work}

-- ---- in one segment
abbrev pub work_at : {T : Type 0} → Begun T → Work T
work_at b = record { segment = b.segment; pass = b.pass.seat.me.0 }

abbrev pub wakes_at : {T : Type 0} → Begun T → Wakes
wakes_at b = wakes (tokens_given b.pass.seat.me.0) 0

-- it drew its position for x, and has to mark it
abbrev pub IsWriting : {T : Type 0} → T → Begun T → Type 0
IsWriting x b = half_in b.pass ≡ Writes (spot b.position x)

-- it claimed its position, which has x, and owes nothing else
abbrev pub IsReading : {T : Type 0} → T → Begun T → Type 0
IsReading x b = (half_in b.pass ≡ Reads (spot b.position x)) × (b.debt ≡ owed.Nothing)

-- x counts as sent there from the draw on
abbrev pub HasDrawn : {T : Type 0} → T → Work T → Begun T → Type 0
HasDrawn x v b = IsWriting x b × ((s : HasSent x v (work_at b)) × (s.number ≡ b.position))

-- x counts as received from there from the claim on
abbrev pub HasClaimed : {T : Type 0} → T → Work T → Begun T → Type 0
HasClaimed x v b = IsReading x b × ((s : HasGot x v (work_at b)) × (s.number ≡ b.position))

abbrev pub OfMiss : Miss → Type 0 → Type 0 → Type 0 → Type 0
OfMiss miss.Again again empty over = again
OfMiss miss.Empty again empty over = empty
OfMiss miss.Over again empty over = over

-- ---- in all
abbrev pub stand_half : {T : Type 0} → Halfway T → Standing T
stand_half h = record { chair = h.chair; pass = Some h.begun.pass.seat.me.0 }

abbrev pub wakes_half : {T : Type 0} → Halfway T → Wakes
wakes_half h = wakes (h.chair.me.0.gave + tokens_given h.begun.pass.seat.me.0) 0

abbrev pub place_in : {T : Type 0} → Halfway T → Place
place_in h = record { segment = h.at; number = h.begun.position }

-- the last call of a log
abbrev pub last : {T : Type 0} → List (Deed T) → Option (Deed T)
last [] = None
last (d ∷ []) = Some d
last (d ∷ e ∷ ds) = last (e ∷ ds)

-- that is at place p, with value x
abbrev pub EndsWith : {T : Type 0} → Place → T → List (Deed T) → Type 0
EndsWith p x ds = last ds ≡ Some record { place = p; value = x }

-- what has to be written to segment k, or read from there
abbrev pub to_write : {T : Type 0} → ℕ → Half T → Option (Deed T)
to_write k Nothing = None
to_write k (Writes s) = Some (deed k s)
to_write k (Reads s) = None

abbrev pub to_read : {T : Type 0} → ℕ → Half T → Option (Deed T)
to_read k Nothing = None
to_read k (Writes s) = None
to_read k (Reads s) = Some (deed k s)

-- there is such a call, and it is the last of the log
abbrev pub IsLastOf : {T : Type 0} → Option (Deed T) → List (Deed T) → Type 0
IsLastOf o ds = (o ≡ last ds) × (is_some (last ds) ≡ true)

-- it has to write what it sent last
abbrev pub IsWriter : {T : Type 0} → Halfway T → Type 0
IsWriter h = IsLastOf (to_write h.at (half_in h.begun.pass)) (sent_in (stand_half h))

-- it has to read what it received last, and owes nothing else
abbrev pub IsReader : {T : Type 0} → Halfway T → Type 0
IsReader h = IsLastOf (to_read h.at (half_in h.begun.pass)) (got_in (stand_half h)) × (h.begun.debt ≡ owed.Nothing)

-- since v, it sent x to its place, and has still to write it
abbrev pub DrawsOne : {T : Type 0} → T → Standing T → Halfway T → Type 0
DrawsOne x v h = OneSent x v (stand_half h) × IsWriter h × EndsWith (place_in h) x (sent_in (stand_half h))

-- since v, it received x from its place, and has still to read it
abbrev pub ClaimsOne : {T : Type 0} → T → Standing T → Halfway T → Type 0
ClaimsOne x v h = OneGot x v (stand_half h) × IsReader h × EndsWith (place_in h) x (got_in (stand_half h))
