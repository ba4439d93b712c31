-- One object with the inputs of its processes, as plain data.
use Rattle.std.specs.Prelude.{ℕ, List, slice_index}
use Rattle.mb_quorum.specs.Quorum.{QuorumTable, IsQuorumTable}
use Rattle.mb_deciding.specs.Types.{Kind, Conciliator, Ratifier, LastObject}

-- an object of a kind over a quorum table, and for each process its input
pub record Object : Type 0 where
  pub table : QuorumTable
  pub kind : Kind
  pub inputs : ℕ → ℕ

-- the object with this table, kind and inputs
abbrev pub object_of : QuorumTable → Kind → (ℕ → ℕ) → Object
object_of t kind inputs = record { table = t; kind = kind; inputs = inputs }

-- a ratifier over the table
abbrev pub ratifier_of : QuorumTable → (ℕ → ℕ) → Object
ratifier_of t inputs = object_of t Ratifier inputs

-- a conciliator with s + 1 attempts
abbrev pub conciliator_of : QuorumTable → ℕ → (ℕ → ℕ) → Object
conciliator_of t s inputs = object_of t (Conciliator s) inputs

-- a last object for the table's values
abbrev pub last_of : QuorumTable → (ℕ → ℕ) → Object
last_of t inputs = object_of t LastObject inputs

-- the object's table keeps the law of quorum tables
abbrev pub ObjectIsSound : Object → Type 0
ObjectIsSound o = IsQuorumTable o.table

-- an object with a list of inputs, one for each process
pub record ObjectSetup : Type 0 where
  pub table : QuorumTable
  pub kind : Kind
  pub inputs : List ℕ

-- the setup with this table, kind and inputs
abbrev pub setup_of : QuorumTable → Kind → List ℕ → ObjectSetup
setup_of t kind inputs = record { table = t; kind = kind; inputs = inputs }

-- the object of a setup
abbrev pub object_in : ObjectSetup → Object
object_in u = object_of u.table u.kind (slice_index u.inputs)
