-- A process at its place in an object of any kind: its turns are an open prefix of a path, and with the next turn still
-- a prefix of one. Also what that turn may find, and to which word it goes.
use Rattle.std.proofs.Common.{ℕ, List, ◌∷◌, sym, subst}
use Rattle.mb_deciding.specs.{Op, Turn, Access, Out, Kind, Conciliator}
use Rattle.mb_deciding.specs.{Ratifier, LastObject, Pc, InRatifier, InConciliator, InLast}
use Rattle.mb_deciding.specs.{object_of, part}
use Rattle.mb_deciding.specs.{acts, IsPath, IsPrefix, IsOpen, IsObjectLawful, PcIsAt}
use Rattle.mb_deciding.specs.{IsOpAt}
use Rattle.mb_deciding.specs.{CanFind, HasReg, reg_of, seen_by, turn_after}
use Rattle.mb_quorum.specs.Quorum.{QuorumTable, IsQuorumTable}
use Rattle.mb_deciding.proofs.Owed.{one_end}
use Rattle.mb_deciding.proofs.Lasts.{last_prefix, last_found, opens_last}
use Rattle.mb_deciding.proofs.Prefixes.{part_by_turns, open_by_turns}
use Rattle.mb_deciding.proofs.ConciliatorPlaces.{drawing_open}
use Rattle.mb_deciding.proofs.RatifierStepping.{checking_open, checking_next, checking_found, checking_word}
use Rattle.mb_deciding.proofs.ConciliatorStepping.{open_turns, drawing_next, drawing_found, drawing_word}

-- with the next turn of a process at its place, its part is a prefix of a path
pub next_part :
    (t : QuorumTable) (kind : Kind) (inputs : ℕ → ℕ) (h : List Access) (p : ℕ) (pc : Pc) (op : Op) (word : ℕ)
    → IsQuorumTable t → IsObjectLawful (object_of t kind inputs) h → PcIsAt t kind (inputs p) pc (part p h)
    → IsOpAt t pc op
    → IsPrefix t kind (inputs p) (turn_after op word h ∷ part p h)
next_part t Ratifier inputs h p (InRatifier place) op word q l at is =
    part_by_turns t (inputs p) (turn_after op word h ∷ part p h)
    (checking_next t q (inputs p) place (acts (part p h)) op (seen_by op h) at.0 at.1 is
    (checking_found t inputs h l place op))
next_part t Ratifier inputs h p (InConciliator place) op word q l at is = absurd at
next_part t (Conciliator s) inputs h p (InConciliator place) op word q l at is =
    drawing_next t s inputs h p place op word l at.1 is
next_part t (Conciliator s) inputs h p (InRatifier place) op word q l at is = absurd at
next_part t Ratifier inputs h p (InLast place) op word q l at is = absurd at
next_part t (Conciliator s) inputs h p (InLast place) op word q l at is = absurd at
next_part t LastObject inputs h p (InRatifier place) op word q l at is = absurd at
next_part t LastObject inputs h p (InConciliator place) op word q l at is = absurd at
next_part t LastObject inputs h p (InLast place) op word q l at is =
    last_prefix t (inputs p) place (part p h) op (seen_by op h) word at is

-- after a lawful history the op that comes next at a place finds a value that it may find there
pub next_found :
    (t : QuorumTable) (kind : Kind) (inputs : ℕ → ℕ) (h : List Access) (p : ℕ) (pc : Pc) (op : Op) → IsQuorumTable t
    → IsObjectLawful (object_of t kind inputs) h → PcIsAt t kind (inputs p) pc (part p h) → IsOpAt t pc op
    → CanFind t pc op (seen_by op h)
next_found t Ratifier inputs h p (InRatifier place) op q l at is = checking_found t inputs h l place op
next_found t Ratifier inputs h p (InConciliator place) op q l at is = absurd at
next_found t (Conciliator s) inputs h p (InConciliator place) op q l at is =
    drawing_found t s inputs h p place op l at.1 is
next_found t (Conciliator s) inputs h p (InRatifier place) op q l at is = absurd at
next_found t Ratifier inputs h p (InLast place) op q l at is = absurd at
next_found t (Conciliator s) inputs h p (InLast place) op q l at is = absurd at
next_found t LastObject inputs h p (InRatifier place) op q l at is = absurd at
next_found t LastObject inputs h p (InConciliator place) op q l at is = absurd at
next_found t LastObject inputs h p (InLast place) op q l at is = last_found t inputs h l place op is

-- the turns that led to a place are an open prefix of a path: at least one later turn completes it
pub at_open :
    (t : QuorumTable) (kind : Kind) (v : ℕ) (pc : Pc) (turns : List Turn) → IsQuorumTable t → PcIsAt t kind v pc turns
    → IsOpen t kind v turns
at_open t Ratifier v (InRatifier place) turns q at =
    open_by_turns t v turns (checking_open t q v place (acts turns) at.0 at.1)
at_open t Ratifier v (InConciliator place) turns q at = absurd at
at_open t (Conciliator s) v (InConciliator place) turns q at = drawing_open t s v place turns at.1
at_open t (Conciliator s) v (InRatifier place) turns q at = absurd at
at_open t Ratifier v (InLast place) turns q at = absurd at
at_open t (Conciliator s) v (InLast place) turns q at = absurd at
at_open t LastObject v (InRatifier place) turns q at = absurd at
at_open t LastObject v (InConciliator place) turns q at = absurd at
at_open t LastObject v (InLast place) turns q at =
    subst (λ xs. IsOpen t LastObject v xs) (sym at.1.1) (opens_last t v)

-- the turns that led to a place are a prefix of a path
pub at_part :
    (t : QuorumTable) (kind : Kind) (v : ℕ) (pc : Pc) (turns : List Turn) → IsQuorumTable t → PcIsAt t kind v pc turns
    → IsPrefix t kind v turns
at_part t kind v pc turns q at = open_turns t kind v turns (at_open t kind v pc turns q at)

-- the turns that led to a place are not a whole path
pub at_unfinished :
    (t : QuorumTable) (kind : Kind) (v : ℕ) (pc : Pc) (turns : List Turn) (out : Out) → IsQuorumTable t
    → PcIsAt t kind v pc turns → IsPath t kind v turns out → ⊥
at_unfinished t kind v pc turns out q at path =
    let further = at_open t kind v pc turns q at in
    further.1 (one_end t kind v turns further.0 out further.2.0 path further.2.1).0

-- the op that comes next at a place goes to a word of the object
pub at_word :
    (t : QuorumTable) (kind : Kind) (v : ℕ) (pc : Pc) (turns : List Turn) (op : Op) → IsQuorumTable t
    → PcIsAt t kind v pc turns → IsOpAt t pc op → HasReg t.registers kind (reg_of op)
at_word t Ratifier v (InRatifier place) turns op q at is = checking_word t q v place (acts turns) op at.0 at.1 is
at_word t Ratifier v (InConciliator place) turns op q at is = absurd at
at_word t (Conciliator s) v (InConciliator place) turns op q at is = drawing_word t.registers s place op is
at_word t (Conciliator s) v (InRatifier place) turns op q at is = absurd at
at_word t Ratifier v (InLast place) turns op q at is = absurd at
at_word t (Conciliator s) v (InLast place) turns op q at is = absurd at
at_word t LastObject v (InRatifier place) turns op q at is = absurd at
at_word t LastObject v (InConciliator place) turns op q at is = absurd at
at_word t LastObject v (InLast place) turns op q at is =
    subst (λ o. HasReg t.registers LastObject (reg_of o)) (sym is) tt
