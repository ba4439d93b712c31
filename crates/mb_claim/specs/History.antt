-- Histories of claims over many cells: lists of accesses, the newest first. An access is what one consumer did to one
-- word of one object of one cell. Without the consumer and the cell it is a step: the object's number and the turn.
-- Without the object, too, it is a turn. A part, or the history of one object, has its accesses in the order of the
-- history.
use Rattle.std.specs.Prelude.{ℕ, ◌==◌, if◌then◌else◌, Option, Some, None, List, [], ◌∷◌, filter_map}
use Rattle.mb_deciding.specs.Vocabulary.{value_in, ReadsLast, IsInWords, part as object_part}
use Rattle.mb_claim.specs.ObjectTypes.{Reg, Access, Turn}
use Rattle.mb_claim.specs.Types.{ObjectTurn, ClaimAccess}

-- the step of the access, if consumer c made it on cell k
abbrev pub step_by : ℕ → ℕ → ClaimAccess → Option ObjectTurn
step_by c k a = if a.consumer == c then (if a.cell == k then Some a.step else None) else None

-- the part of consumer c on cell k: the steps that it made there
abbrev pub part_on : ℕ → ℕ → List ClaimAccess → List ObjectTurn
part_on c k h = filter_map (step_by c k) h

-- the access, if consumer c made it
abbrev pub access_by : ℕ → ClaimAccess → Option ClaimAccess
access_by c a = if a.consumer == c then Some a else None

-- the part of consumer c: all accesses that it made
abbrev pub part : ℕ → List ClaimAccess → List ClaimAccess
part c h = filter_map (access_by c) h

-- the access as one of the history of object o of cell k, if it is made there
abbrev pub access_on : ℕ → ℕ → ClaimAccess → Option Access
access_on k o a =
    if a.cell == k
    then (if a.step.object == o then Some (record { process = a.consumer; turn = a.step.turn }) else None)
    else None

-- the history of object o of cell k. Its processes are the consumers
abbrev pub object_history : ℕ → ℕ → List ClaimAccess → List Access
object_history k o h = filter_map (access_on k o) h

-- the turns that consumer c made on object o of cell k
abbrev pub part_at : ℕ → ℕ → ℕ → List ClaimAccess → List Turn
part_at c k o h = object_part c (object_history k o h)

-- what a history leaves in a word of object o of cell k
abbrev pub held_at : ℕ → ℕ → Reg → List ClaimAccess → ℕ
held_at k o reg h = value_in reg (object_history k o h)

-- each access that loads has what the older accesses left in its word
abbrev pub IsMemoryTrue : List ClaimAccess → Type 0
IsMemoryTrue [] = Unit {0}
IsMemoryTrue (a ∷ older) = ReadsLast a.step.turn.act (object_history a.cell a.step.object older)
    × IsMemoryTrue older

-- values and random words are below 2 ^ 64
abbrev pub AreInWords : List ClaimAccess → Type 0
AreInWords [] = Unit {0}
AreInWords (a ∷ older) = IsInWords a.step.turn × AreInWords older

-- the accesses to cell k
abbrev pub on_cell : ℕ → List ClaimAccess → List ClaimAccess
on_cell k h = filter_map (λ a. if a.cell == k then Some a else None) h
