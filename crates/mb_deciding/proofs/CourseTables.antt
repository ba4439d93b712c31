-- Which tables an object can have: a ratifier and a last object a lawful one, a conciliator any. Over each of them,
-- what a process at its place does next.
use Rattle.std.proofs.Common.{◌≡◌, ℕ, ◌≤◌, List, ◌∷◌, refl, ap, subst, sym, arith}
use Rattle.mb_quorum.specs.Quorum.{QuorumTable}
use Rattle.mb_deciding.specs.{Turn, Access, Op, Reg, Value, Proposal, Quorum, Last, Kind, Conciliator, Ratifier, LastObject, Out, Pc}
use Rattle.mb_deciding.specs.{InRatifier, InConciliator, InLast}
use Rattle.mb_deciding.specs.{object_of, part, IsPath, IsPrefix, IsOpen, IsObjectLawful, PcIsAt, IsOpAt, CanFind, HasReg}
use Rattle.mb_deciding.specs.{reg_of, seen_by, turn_after, IsPlace, IsTableFor, IsSameFor, IsReg}
use Rattle.mb_deciding.proofs.Owed.{one_end}
use Rattle.mb_deciding.proofs.ConciliatorPlaces.{drawing_open}
use Rattle.mb_deciding.proofs.ConciliatorStepping.{drawing_next, drawing_found, drawing_word}
use Rattle.mb_deciding.proofs.Stepping.{next_part, next_found, at_open, at_word}

-- an object of each kind does the same over a table and over that table itself
pub same_self : (kind : Kind) (t : QuorumTable) → IsSameFor kind t t
same_self (Conciliator s) t = refl
same_self Ratifier t = refl
same_self LastObject t = refl

-- if an object does the same over two tables, they have equally many values
pub same_values : (kind : Kind) (t u : QuorumTable) → IsSameFor kind t u → t.values ≡ u.values
same_values (Conciliator s) t u same = same
same_values Ratifier t u same = ap (λ (x : QuorumTable). x.values) same
same_values LastObject t u same = ap (λ (x : QuorumTable). x.values) same

-- if an object does the same over two tables, and can have the one, it can have the other
pub same_table : (kind : Kind) (t u : QuorumTable) → IsSameFor kind t u → IsTableFor kind u → IsTableFor kind t
same_table (Conciliator s) t u same q = tt
same_table Ratifier t u same q = subst (λ x. IsTableFor Ratifier x) (sym same) q
same_table LastObject t u same q = subst (λ x. IsTableFor LastObject x) (sym same) q

-- ---- a process at a place
-- if turns led a process to a place in a ratifier, the place fits the table
pub ratifier_place :
    (t : QuorumTable) (v : ℕ) (pc : Pc) (turns : List Turn) → PcIsAt t Ratifier v pc turns → IsPlace t pc
ratifier_place t v (InRatifier place) turns at = at.0
ratifier_place t v (InConciliator place) turns at = absurd at
ratifier_place t v (InLast place) turns at = absurd at

-- with the next turn of a process at its place, its part is a prefix of a path
pub place_leads :
    (t : QuorumTable) (kind : Kind) (inputs : ℕ → ℕ) (h : List Access) (p : ℕ) (pc : Pc) (op : Op) (word : ℕ)
    → IsTableFor kind t → IsObjectLawful (object_of t kind inputs) h → PcIsAt t kind (inputs p) pc (part p h)
    → IsOpAt t pc op
    → IsPrefix t kind (inputs p) (turn_after op word h ∷ part p h)
place_leads t Ratifier inputs h p pc op word q l at is = next_part t Ratifier inputs h p pc op word q l at is
place_leads t (Conciliator s) inputs h p (InConciliator place) op word q l at is =
    drawing_next t s inputs h p place op word l at.1 is
place_leads t (Conciliator s) inputs h p (InRatifier place) op word q l at is = absurd at
place_leads t (Conciliator s) inputs h p (InLast place) op word q l at is = absurd at
place_leads t LastObject inputs h p pc op word q l at is = next_part t LastObject inputs h p pc op word q l at is

-- after a lawful history the op that comes next at a place finds a value that it may find there
pub place_finds :
    (t : QuorumTable) (kind : Kind) (inputs : ℕ → ℕ) (h : List Access) (p : ℕ) (pc : Pc) (op : Op) → IsTableFor kind t
    → IsObjectLawful (object_of t kind inputs) h → PcIsAt t kind (inputs p) pc (part p h) → IsOpAt t pc op
    → CanFind t pc op (seen_by op h)
place_finds t Ratifier inputs h p pc op q l at is = next_found t Ratifier inputs h p pc op q l at is
place_finds t (Conciliator s) inputs h p (InConciliator place) op q l at is =
    drawing_found t s inputs h p place op l at.1 is
place_finds t (Conciliator s) inputs h p (InRatifier place) op q l at is = absurd at
place_finds t (Conciliator s) inputs h p (InLast place) op q l at is = absurd at
place_finds t LastObject inputs h p pc op q l at is = next_found t LastObject inputs h p pc op q l at is

-- the turns that led to a place are an open prefix of a path: at least one later turn completes it
place_open :
    (t : QuorumTable) (kind : Kind) (v : ℕ) (pc : Pc) (turns : List Turn) → IsTableFor kind t → PcIsAt t kind v pc turns
    → IsOpen t kind v turns
place_open t Ratifier v pc turns q at = at_open t Ratifier v pc turns q at
place_open t (Conciliator s) v (InConciliator place) turns q at = drawing_open t s v place turns at.1
place_open t (Conciliator s) v (InRatifier place) turns q at = absurd at
place_open t (Conciliator s) v (InLast place) turns q at = absurd at
place_open t LastObject v pc turns q at = at_open t LastObject v pc turns q at

-- the turns that led to a place are not a whole path
pub place_unfinished :
    (t : QuorumTable) (kind : Kind) (v : ℕ) (pc : Pc) (turns : List Turn) (out : Out) → IsTableFor kind t
    → PcIsAt t kind v pc turns → IsPath t kind v turns out → ⊥
place_unfinished t kind v pc turns out q at path =
    let further = place_open t kind v pc turns q at in
    further.1 (one_end t kind v turns further.0 out further.2.0 path further.2.1).0

-- the memory of a run has each word that an object of this kind has
has_reg : (r : ℕ) (kind : Kind) (reg : Reg) → r ≤ 64 → HasReg r kind reg → IsReg reg
has_reg r kind Value few has = tt
has_reg r kind Proposal few has = tt
has_reg r Ratifier (Quorum i) few has = omega arith
has_reg r (Conciliator s) (Quorum i) few has = absurd has
has_reg r LastObject (Quorum i) few has = absurd has
has_reg r kind Last few has = tt

-- the memory of a run has the word to which the next op of a place goes
pub place_word :
    (t : QuorumTable) (kind : Kind) (v : ℕ) (pc : Pc) (turns : List Turn) (op : Op) → IsTableFor kind t
    → PcIsAt t kind v pc turns → IsOpAt t pc op → IsReg (reg_of op)
place_word t Ratifier v pc turns op q at is =
    has_reg t.registers Ratifier (reg_of op) q.limit (at_word t Ratifier v pc turns op q at is)
place_word t (Conciliator s) v (InConciliator place) turns op q at is =
    has_reg 0 (Conciliator s) (reg_of op) (omega arith) (drawing_word 0 s place op is)
place_word t (Conciliator s) v (InRatifier place) turns op q at is = absurd at
place_word t (Conciliator s) v (InLast place) turns op q at is = absurd at
place_word t LastObject v pc turns op q at is =
    has_reg t.registers LastObject (reg_of op) q.limit (at_word t LastObject v pc turns op q at is)
