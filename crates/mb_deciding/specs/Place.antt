-- The place of one process in an object, what it has made so far, what it does next, and what it may find then.
use Rattle.std.specs.Prelude.{◌≡◌, ◌≢◌, ℕ, ◌+◌, ◌<◌, ◌≤◌, ◌^◌, ◌↔◌, List, [], ◌∷◌}
use Rattle.mb_quorum.specs.Quorum.{QuorumTable, IsMember}
use Rattle.mb_deciding.specs.Types.{Reg, Value, Proposal, Quorum, Last, Act, Load, Store, Exchange, Op, Turn, Access}
use Rattle.mb_deciding.specs.Types.{Kind, Conciliator, LastObject, InLast, LastPlace}
use Rattle.mb_deciding.specs.Types.{Ratifier, Pc, InRatifier, InConciliator, RatifierPlace, Begin, Announce, Propose}
use Rattle.mb_deciding.specs.Types.{Check, ConciliatorPlace, Draw, Put, Look, Next}
use Rattle.mb_deciding.specs.declared.access.Op.TheVariants as to
use Rattle.mb_deciding.specs.declared.place.pc.Next.TheVariants as leads
use Rattle.mb_deciding.specs.History.{value_in, acts}
use Rattle.mb_deciding.specs.RatifierPaths.{stores_below, announcement, ReadsClear}
use Rattle.mb_deciding.specs.ConciliatorPaths.{IsMissing, IsDrawn, IsPut}
use Rattle.mb_deciding.specs.Objects.{IsPath}

-- ---- registers of a quorum, as a mask
-- r is the least register of the quorum
pub record IsLeast (mask r : ℕ) : Type 0 where
  pub member : IsMember mask r
  pub least : (k : ℕ) → k < r → IsMember mask k → ⊥

-- the mask `left` has just those registers of the quorum that are not below the bound
abbrev pub IsRest : ℕ → ℕ → ℕ → Type 0
IsRest mask bound left = (k : ℕ) → IsMember left k ↔ ((bound ≤ k) × IsMember mask k)

-- ---- places that fit a table
-- the place in a ratifier fits the table: its input or preference is one of the values, and a check has a register left
abbrev pub IsRatifierPlace : QuorumTable → RatifierPlace → Type 0
IsRatifierPlace t (Begin input) = input < t.values
IsRatifierPlace t (Announce input left) = input < t.values
IsRatifierPlace t (Propose input) = input < t.values
IsRatifierPlace t (Check preference left) = (preference < t.values) × (left ≢ 0)

-- attempt k is no later than the last attempt s, `limit` is 2 ^ k and `modulus` is 2 ^ s
abbrev pub HasLimits : ℕ → ℕ → ℕ → ℕ → Type 0
HasLimits s k limit modulus = (k ≤ s) × (limit ≡ 2 ^ k) × (modulus ≡ 2 ^ s)

-- the place in a conciliator fits: the input is below `values`, and a `Draw` has the limits of an attempt, with s ≤ 63
abbrev pub IsConciliatorPlace : ℕ → ConciliatorPlace → Type 0
IsConciliatorPlace values (Draw input limit modulus) =
    (input < values) × ((s k : ℕ) × (s ≤ 63) × HasLimits s k limit modulus)
IsConciliatorPlace values (Put input) = input < values
IsConciliatorPlace values (Look input) = input < values

-- the place in an object of any kind fits the table
abbrev pub IsPlace : QuorumTable → Pc → Type 0
IsPlace t (InRatifier place) = IsRatifierPlace t place
IsPlace t (InConciliator place) = IsConciliatorPlace t.values place
IsPlace t (InLast place) = place.input < t.values

-- ---- the turns that lead to a place
-- a process with input v that has made these acts on a ratifier is at the place
abbrev pub IsInRatifier : QuorumTable → ℕ → RatifierPlace → List Act → Type 0
IsInRatifier t v (Begin input) made = (input ≡ v) × (made ≡ [])
IsInRatifier t v (Announce input left) made =
    (input ≡ v)
    × ((bound : ℕ) × (bound ≤ t.registers) × IsRest (t.write v) bound left ×
    (made ≡ stores_below bound (t.write v)))
IsInRatifier t v (Propose input) made = (input ≡ v) × (made ≡ Load Proposal 0 ∷ announcement t v)
IsInRatifier t v (Check preference left) made =
    (bound : ℕ) × (bound ≤ t.registers) × IsRest (t.read preference) bound left
    × ReadsClear t v preference bound made

-- a process with input v that has made these turns on a conciliator is at the place
abbrev pub IsInConciliator : ℕ → ℕ → ConciliatorPlace → List Turn → Type 0
IsInConciliator s v (Draw input limit modulus) made =
    (input ≡ v) × ((k : ℕ) × HasLimits s k limit modulus × IsMissing s k made)
IsInConciliator s v (Put input) made = (input ≡ v) × ((k : ℕ) × (k ≤ s) × IsDrawn s k made)
IsInConciliator s v (Look input) made = (input ≡ v) × ((k : ℕ) × (k ≤ s) × IsPut s v k made)

-- a process with input v on an object of this kind, which has made these turns, is at the place
abbrev pub PcIsAt : QuorumTable → Kind → ℕ → Pc → List Turn → Type 0
PcIsAt t Ratifier v (InRatifier place) turns =
    IsPlace t (InRatifier place) × IsInRatifier t v place (acts turns)
PcIsAt t (Conciliator s) v (InConciliator place) turns =
    IsPlace t (InConciliator place) × IsInConciliator s v place turns
PcIsAt t Ratifier v (InConciliator place) turns = ⊥
PcIsAt t (Conciliator s) v (InRatifier place) turns = ⊥
PcIsAt t LastObject v (InLast place) turns =
    IsPlace t (InLast place) × ((place.input ≡ v) × (turns ≡ []))
PcIsAt t LastObject v (InConciliator place) turns = ⊥
PcIsAt t LastObject v (InRatifier place) turns = ⊥
PcIsAt t Ratifier v (InLast place) turns = ⊥
PcIsAt t (Conciliator s) v (InLast place) turns = ⊥

-- ---- the access that comes next, its act and its word
-- at this place in a ratifier this op comes next
abbrev pub IsRatifierOp : QuorumTable → RatifierPlace → Op → Type 0
IsRatifierOp t (Begin input) (to.Store (Quorum r) value) = (value ≡ 1) × IsLeast (t.write input) r
IsRatifierOp t (Begin input) (to.Load Proposal) = t.write input ≡ 0
IsRatifierOp t (Announce input left) (to.Store (Quorum r) value) = (value ≡ 1) × IsLeast left r
IsRatifierOp t (Announce input left) (to.Load Proposal) = left ≡ 0
IsRatifierOp t (Propose input) (to.Store Proposal value) = value ≡ input + 1
IsRatifierOp t (Check preference left) (to.Load (Quorum r)) = IsLeast left r
IsRatifierOp t place op = ⊥

-- at this place in a conciliator this op comes next
abbrev pub IsConciliatorOp : ConciliatorPlace → Op → Type 0
IsConciliatorOp (Draw input limit modulus) op = op ≡ to.Load Value
IsConciliatorOp (Put input) op = op ≡ to.Store Value (input + 1)
IsConciliatorOp (Look input) op = op ≡ to.Load Value

-- at this place in a last object this op comes next: the exchange for the input
abbrev pub IsLastOp : LastPlace → Op → Type 0
IsLastOp place op = op ≡ to.Exchange Last (place.input + 1)

-- at this place this op comes next
abbrev pub IsOpAt : QuorumTable → Pc → Op → Type 0
IsOpAt t (InRatifier place) op = IsRatifierOp t place op
IsOpAt t (InConciliator place) op = IsConciliatorOp place op
IsOpAt t (InLast place) op = IsLastOp place op

-- the act of an op that found this value. A store finds none
abbrev pub act_of : Op → ℕ → Act
act_of (to.Load reg) seen = Load reg seen
act_of (to.Store reg value) seen = Store reg value
act_of (to.Exchange reg value) seen = Exchange reg value seen

-- the word that an op goes to
abbrev pub reg_of : Op → Reg
reg_of (to.Load reg) = reg
reg_of (to.Store reg value) = reg
reg_of (to.Exchange reg value) = reg

-- an object of this kind, with r quorum registers, has the word
abbrev pub HasReg : ℕ → Kind → Reg → Type 0
HasReg r (Conciliator s) Value = Unit {0}
HasReg r Ratifier Proposal = Unit {0}
HasReg r Ratifier (Quorum i) = i < r
HasReg r LastObject Last = Unit {0}
HasReg r _ _ = ⊥

-- ---- what the access may find, and what it leads to
-- a load of a process at its place in a conciliator may find v + 1 for one of the values v. It may find 0 only if the
-- process has not stored. A store finds none, so any number will do
abbrev pub CanMeet : ℕ → ConciliatorPlace → ℕ → Type 0
CanMeet values (Draw input limit modulus) seen = seen ≤ values
CanMeet values (Put input) seen = Unit {0}
CanMeet values (Look input) seen = (0 < seen) × (seen ≤ values)

-- the next op of a process at the place may find this. For a store any value will do, since it finds none. A load or an
-- exchange finds a value that the word can hold. In a conciliator that is not 0 if the process itself has stored
abbrev pub CanFind : QuorumTable → Pc → Op → ℕ → Type 0
CanFind t pc (to.Store reg value) seen = Unit {0}
CanFind t (InRatifier place) (to.Load Proposal) seen = seen ≤ t.values
CanFind t (InRatifier place) (to.Load (Quorum r)) seen = seen ≤ 1
CanFind t (InRatifier place) (to.Load Value) seen = Unit {0}
CanFind t (InRatifier place) (to.Load Last) seen = Unit {0}
CanFind t (InRatifier place) (to.Exchange reg value) seen = Unit {0}
CanFind t (InConciliator place) (to.Load reg) seen = CanMeet t.values place seen
CanFind t (InConciliator place) (to.Exchange reg value) seen = Unit {0}
CanFind t (InLast place) (to.Load reg) seen = Unit {0}
CanFind t (InLast place) (to.Exchange reg value) seen = seen ≤ t.values

-- a process with input v that has made these turns has reached the place, or its output
abbrev pub IsReached : QuorumTable → Kind → ℕ → Next → List Turn → Type 0
IsReached t kind v (leads.Go pc) turns = PcIsAt t kind v pc turns
IsReached t kind v (leads.Out out) turns = IsPath t kind v turns out

-- what follows is a place that fits the table, or an output with one of its values
abbrev pub IsNext : QuorumTable → Next → Type 0
IsNext t (leads.Go pc) = IsPlace t pc
IsNext t (leads.Out out) = out.value < t.values

-- the value that a history leaves in the word of a load or of an exchange, and 0 for a store
abbrev pub seen_by : Op → List Access → ℕ
seen_by (to.Load reg) h = value_in reg h
seen_by (to.Store reg value) h = 0
seen_by (to.Exchange reg value) h = value_in reg h

-- the turn that an op makes after a history, with a random word
abbrev pub turn_after : Op → ℕ → List Access → Turn
turn_after op word h = record { act = act_of op (seen_by op h); word = word }
