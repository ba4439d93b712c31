-- What the next access of a place leads to, by what it finds.
use Rattle.std.specs.Prelude.{ℕ, List, ◌∷◌, Option, None, Some}
use Rattle.mb_quorum.specs.Quorum.{QuorumTable}
use Rattle.mb_deciding.specs.Types.{Op, Turn, Kind, Conciliator, Ratifier, Pc, InConciliator, InRatifier, InLast, Next, Out}
use Rattle.mb_deciding.specs.Types.{RatifierPlace, ConciliatorPlace, LastPlace, LastObject}
use Rattle.mb_deciding.specs.declared.place.pc.Next.TheVariants as leads
use Rattle.mb_deciding.specs.Place.{PcIsAt, IsOpAt, IsRatifierOp, IsConciliatorOp, IsLastOp, IsReached, CanFind, act_of}

-- what follows an access: the output, if there is one, or else the place
abbrev pub next_from : Option Out → Pc → Next
next_from None pc = leads.Go pc
next_from (Some out) pc = leads.Out out

-- the output, if there is one, or else what the process had reached before
abbrev pub come_to : Option Out → Next → Next
come_to None next = next
come_to (Some out) next = leads.Out out

-- a process at the place in a ratifier has reached what follows, if its next access found this value and can find it
abbrev pub RatifierReaches : QuorumTable → RatifierPlace → ℕ → Next → Type 0
RatifierReaches t place seen follows =
    (v : ℕ) (turns : List Turn) (op : Op) (word : ℕ) → PcIsAt t Ratifier v (InRatifier place) turns
    → IsRatifierOp t place op → CanFind t (InRatifier place) op seen
    → IsReached t Ratifier v follows (record { act = act_of op seen; word = word } ∷ turns)

-- a process at the place in a conciliator has reached what follows, if its next access found this value, which it can
-- find, and had this random word
abbrev pub ConciliatorReaches : QuorumTable → ConciliatorPlace → ℕ → ℕ → Next → Type 0
ConciliatorReaches t place seen word follows =
    (s v : ℕ) (turns : List Turn) (op : Op) → PcIsAt t (Conciliator s) v (InConciliator place) turns
    → IsConciliatorOp place op → CanFind t (InConciliator place) op seen
    → IsReached t (Conciliator s) v follows (record { act = act_of op seen; word = word } ∷ turns)

-- a process at the place in a last object has reached what follows, if its exchange found this value and can find it
abbrev pub LastReaches : QuorumTable → LastPlace → ℕ → Next → Type 0
LastReaches t place seen follows =
    (v : ℕ) (turns : List Turn) (op : Op) (word : ℕ) → PcIsAt t LastObject v (InLast place) turns
    → IsLastOp place op → CanFind t (InLast place) op seen
    → IsReached t LastObject v follows (record { act = act_of op seen; word = word } ∷ turns)

-- the next access of a process at the place was made with the random word, and leads to what follows. `makes` says what
-- was made and what it found
pub record IsStep (t : QuorumTable) (pc : Pc) (makes : Op → ℕ → Type 0) (word : ℕ) (follows : Next) : Type 0 where
  -- the access, and the value that it found
  pub op : Op
  pub seen : ℕ
  -- this access is the one that comes next, and it was made
  pub is : IsOpAt t pc op
  pub made : makes op seen
  -- if the access can find that value, a process that was at the place has reached what follows
  pub reached :
      (kind : Kind) (v : ℕ) (turns : List Turn) → PcIsAt t kind v pc turns → CanFind t pc op seen
      → IsReached t kind v follows (record { act = act_of op seen; word = word } ∷ turns)
