-- Deciding objects: whole paths of one process, their prefixes, and lawful histories of one object. Also its outputs,
-- the values announced, what the words of an object can hold, and how many turns a process makes at most.
use Rattle.std.specs.Prelude.{◌≡◌, ◌≢◌, ℕ, zero, suc, ◌+◌, ◌<◌, ◌≤◌, max, count_ones, Bool, true, false, List, [], ◌++◌}
use Rattle.mb_deciding.specs.OneObject.{Object}
use Rattle.mb_quorum.specs.Quorum.{QuorumTable, IsMember}
use Rattle.mb_deciding.specs.Types.{Reg, Value, Proposal, Quorum, Last, Store, Turn, Access, Out, Kind, Conciliator}
use Rattle.mb_deciding.specs.Types.{Ratifier, LastObject}
use Rattle.mb_deciding.specs.History.{IsMemoryTrue, AreInWords, part, acts, Has}
use Rattle.mb_deciding.specs.RatifierPaths.{IsRatifierPath}
use Rattle.mb_deciding.specs.ConciliatorPaths.{IsConciliatorPath}
use Rattle.mb_deciding.specs.LastPaths.{IsLastPath}

-- the output (d, u)
abbrev pub answer : Bool → ℕ → Out
answer d u = record { decided = d; value = u }

-- the turns are a whole path of one process through an object, with this input and output. A conciliator never decides,
-- and a last object always does
abbrev pub IsPath : QuorumTable → Kind → ℕ → List Turn → Out → Type 0
IsPath t (Conciliator s) input turns output =
    (output.decided ≡ false) × IsConciliatorPath s input turns output.value
IsPath t Ratifier input turns output =
    IsRatifierPath t input (acts turns) output.decided output.value
IsPath t LastObject input turns output =
    (output.decided ≡ true) × IsLastPath input turns output.value

-- the turns are a prefix of a path: later turns, or none, complete it
abbrev pub IsPrefix : QuorumTable → Kind → ℕ → List Turn → Type 0
IsPrefix t kind input turns =
    (later : List Turn) × (output : Out) × IsPath t kind input (later ++ turns) output

-- the turns are an open prefix of a path: later turns, at least one, complete it
abbrev pub IsOpen : QuorumTable → Kind → ℕ → List Turn → Type 0
IsOpen t kind input turns =
    (later : List Turn) × (later ≢ [])
    × ((output : Out) × IsPath t kind input (later ++ turns) output)

-- The history is a lawful one of the object. Each load is true to memory. Values and random words are below 2 ^ 64.
-- The part of each process with a turn is a prefix of a path of its input, which is one of the table's values
pub record IsObjectLawful (o : Object) (h : List Access) : Type 0 where
  pub memory : IsMemoryTrue h
  pub words : AreInWords h
  pub parts :
      (p : ℕ) → part p h ≢ []
      → (o.inputs p < o.table.values) × IsPrefix o.table o.kind (o.inputs p) (part p h)

-- process p has the output (d, u)
abbrev pub HasOutput : Object → ℕ → Bool → ℕ → List Access → Type 0
HasOutput o p d u h = IsPath o.table o.kind (o.inputs p) (part p h) (answer d u)

-- a process with input u has stored 1 in a register of u's write quorum
abbrev pub IsAnnounced : Object → ℕ → List Access → Type 0
IsAnnounced o u h =
    (p r : ℕ) × (o.inputs p ≡ u) × IsMember (o.table.write u) r
    × Has (acts (part p h)) (Store (Quorum r) 1)

-- a word of this name can hold the number n: 0, or one more than a value. A register can hold 0 or 1
abbrev pub CanHold : QuorumTable → Reg → ℕ → Type 0
CanHold t Value n = n ≤ t.values
CanHold t Proposal n = n ≤ t.values
CanHold t (Quorum r) n = n ≤ 1
CanHold t Last n = n ≤ t.values

-- the most registers that a quorum of one of the values below n has, and 0 if n is 0
abbrev pub largest_quorum : (ℕ → ℕ) → ℕ → ℕ
largest_quorum quorum zero = 0
largest_quorum quorum (suc v) = max (count_ones (quorum v)) (largest_quorum quorum v)

-- the most turns that a process can make on an object of this kind over the table
abbrev pub most_turns : QuorumTable → Kind → ℕ
most_turns t (Conciliator s) = s + 3
most_turns t Ratifier = largest_quorum t.write t.values + 2 + largest_quorum t.read t.values
most_turns t LastObject = 1
