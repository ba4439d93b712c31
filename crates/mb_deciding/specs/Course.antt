-- One object with its processes while a schedule runs, and which tables it can have.
use Rattle.std.specs.Prelude.{◌≡◌, ℕ, ◌<◌, ◌≤◌, List, [], length, slice_index, slice_index_or, Option, Some, None}
use Rattle.mb_quorum.specs.Quorum.{QuorumTable, IsQuorumTable}
use Rattle.mb_deciding.specs.OneObject.{ObjectSetup, object_in}
use Rattle.mb_deciding.specs.Types.{Out, Kind, Conciliator, Ratifier, LastObject, Next, Entry, ObjectMemory}
use Rattle.mb_deciding.specs.declared.place.pc.Next.TheVariants as leads
use Rattle.mb_deciding.specs.History.{part}
use Rattle.mb_deciding.specs.Objects.{IsObjectLawful}
use Rattle.mb_deciding.specs.Place.{IsReached}
use Rattle.mb_deciding.specs.Trace.{history_of, AreEntriesOf}
use Rattle.mb_deciding.specs.Memory.{IsMemory}

-- ---- the kind of an object, and its table
-- if the kind is a conciliator, its last attempt is at most 63, so that 2 ^ s fits in 64 bits
abbrev pub IsFitKind : Kind → Type 0
IsFitKind (Conciliator s) = s ≤ 63
IsFitKind Ratifier = Unit {0}
IsFitKind LastObject = Unit {0}

-- an object of this kind can have the table. A conciliator has none, so any table will do
abbrev pub IsTableFor : Kind → QuorumTable → Type 0
IsTableFor (Conciliator s) t = Unit {0}
IsTableFor Ratifier t = IsQuorumTable t
IsTableFor LastObject t = IsQuorumTable t

-- the tables count as the same for an object of this kind. For a conciliator their numbers of values alone count
abbrev pub IsSameFor : Kind → QuorumTable → QuorumTable → Type 0
IsSameFor (Conciliator s) t u = t.values ≡ u.values
IsSameFor Ratifier t u = t ≡ u
IsSameFor LastObject t u = t ≡ u

-- a table of m values, without registers
abbrev pub bare_table : ℕ → QuorumTable
bare_table m = record { values = m; registers = 0; write = λ v. 0; read = λ v. 0 }

-- ---- what a run holds after the turns of a schedule
-- the output, if what a process has reached is one
abbrev pub out_of : Next → Option Out
out_of (leads.Go pc) = None
out_of (leads.Out out) = Some out

-- what a run keeps: the words of its object, what each process has reached, and the entries of the turns so far
pub record CourseState : Type 0 where
  pub words : ObjectMemory
  pub places : List Next
  pub entries : List Entry

-- a run can be in this state after the turns of the schedule
pub record IsCourse (u : ObjectSetup) (schedule : List (ℕ × ℕ)) (run : CourseState) : Type 0 where
  -- each entry is of its turn, and may come after those before it
  pub fits : AreEntriesOf (object_in u) schedule run.entries []
  -- the accesses of the entries are one lawful history, which leaves the words
  pub lawful : IsObjectLawful (object_in u) (history_of schedule run.entries)
  pub memory : IsMemory run.words (history_of schedule run.entries)
  -- there is one place for each input, and each input is a value of the table
  pub processes : length run.places ≡ length u.inputs
  pub within : (p : ℕ) → p < length u.inputs → slice_index u.inputs p < u.table.values
  -- each process has reached what its part leads to
  pub reached :
      (p : ℕ) (d : Next) → p < length run.places
      → IsReached u.table u.kind (slice_index u.inputs p) (slice_index_or run.places p d)
      (part p (history_of schedule run.entries))
