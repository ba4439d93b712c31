-- Fates: who sent and who received each value in a segment that was freed, and an end that is told them.
use Rattle.std.specs.Prelude.{ℕ, ◌≡◌, ◌+◌, ◌⊎◌, List, [], ◌∷◌, map, None, Option, Some, true}
use mathlib.Core.Option.{some}
use lib.ListN.{get_elem?}
use Rattle.atomic_table.specs.Table.{Step}
use Rattle.atomic_table.specs.declared.shared.Seat.{Seat}
use Rattle.mb_segment.specs.Vocabulary.{fate_in, name_in}
use Rattle.mb_segment.specs.declared.left.Fate.{Fate}
use Rattle.mb_channel.specs.declared.auditing.Audited.{Audited}
use Rattle.mb_channel.specs.declared.auditing.Audited.TheVariants as audited
use Rattle.mb_channel.specs.Types.{Fates, Home, Homes, Knows}
use Rattle.mb_channel.specs.Homes.{At, IsFreed, Sat, Stands, came_back, past_of, unlocked}
use Rattle.mb_channel.specs.Inside.{Log, log_of_past}
use Rattle.mb_channel.specs.Visits.{TellsFates}

abbrev pub is_fate : {T : Type 0} → Fates T → ℕ → Option Fate
is_fate f at = fate_in f.left at

-- these are the fates in their segment, which is freed
abbrev pub IsFateOf : {T : Type 0} → List (Home T) → Fates T → Type 0
IsFateOf hs f = At hs f.segment (λ h. IsFreed h × TellsFates f.left (came_back h))

-- ---- what an end is told
-- the fates were taken out of the list, where their segment was the oldest, or none were
abbrev pub IsTaken : {T : Type 0} → List (Home T) → Homes T → Option (Fates T) → Type 0
IsTaken hs l None = Unit {0}
IsTaken hs l (Some f) = IsFateOf hs f × (l.first ≡ f.segment + 1)

-- a seat has the list, out of which this was taken
abbrev pub HasTaken : {T : Type 0} → List (Home T) → Option (Fates T) → List (ℕ × Homes T) → Type 0
HasTaken {T} hs told held = (l : Homes T) × (held ≡ (0, l) ∷ []) × Stands hs l × IsTaken hs l told

abbrev pub told_fates : {T : Type 0} → Option (Fates T) → Knows T → Knows T
told_fates told v = record v { fates = told ∷ v.fates }

-- what it was told of fates, after this answer
abbrev pub and_fates : {T : Type 0} → Audited T → List (Option (Fates T)) → List (Option (Fates T))
and_fates (audited.Told f) fs = Some f ∷ fs
and_fates audited.Nothing fs = None ∷ fs
and_fates audited.Again fs = fs

-- the view, and the chair, of an end that got this answer. Nothing else of it is new
abbrev pub after : {T : Type 0} → Audited T → Knows T → Knows T
after a v = record v { fates = and_fates a v.fates }

abbrev pub chair_after : {T : Type 0} → Audited T → Seat (Homes T) (Knows T) → Seat (Homes T) (Knows T)
chair_after a p = record p { me = (after a p.me.0, p.me.1) }

-- an end that has the lock gives it back, and is told this of the list that it gives back
abbrev pub gives_fates : {T : Type 0} → Option (Fates T) → Step (Homes T) → Sat T → ℕ → Sat T → Type 0
gives_fates told st m r n = (n ≡ (told_fates told (unlocked m.0), [])) × (m.0.holds ≡ true) × HasTaken m.0.before told m.1

-- ---- what that says of the ends
abbrev pub IsOneOf : {A : Type 0} → A → List A → Type 0
IsOneOf a [] = ⊥
IsOneOf a (x ∷ xs) = (a ≡ x) ⊎ IsOneOf a xs

-- an end of the list, or one that was given back, did this in the segments that it left
abbrev pub IsLog : {T : Type 0} → List (Knows T) → Log T → Type 0
IsLog {T} views l = (id : ℕ) × (v : Knows T) × (get_elem? views id ≡ some v)
    × IsOneOf l (map log_of_past (past_of v ∷ v.ended))

-- the end that sent the value at this place has the name that the fate tells, and so has the end that received it
abbrev pub IsTrue : {T : Type 0} → List (Knows T) → ℕ → ℕ → Fate → Type 0
IsTrue {T} views k at x = (l : Log T) (y : T) → IsLog views l
    → (IsOneOf (record { place = record { segment = k; number = at }; value = y }) l.sent → x.sender ≡ name_in l.name)
    × (IsOneOf (record { place = record { segment = k; number = at }; value = y }) l.got → x.receiver ≡ name_in l.name)
