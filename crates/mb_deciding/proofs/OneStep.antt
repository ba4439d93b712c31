-- If the next access of a place was made, and a process reaches what follows it, that is one step (`IsStep`).
use Rattle.std.proofs.Common.{ℕ, List, ◌∷◌}
use Rattle.mb_quorum.specs.Quorum.{QuorumTable}
use Rattle.mb_deciding.specs.{Op, Turn, Kind, Conciliator, Ratifier, LastObject, InConciliator, InRatifier, InLast, Next, ConciliatorPlace}
use Rattle.mb_deciding.specs.{RatifierPlace, LastPlace, PcIsAt, IsConciliatorOp, IsRatifierOp, IsLastOp, IsReached, CanFind}
use Rattle.mb_deciding.specs.{act_of, ConciliatorReaches, RatifierReaches, LastReaches, IsStep}

-- the next access of a place in a conciliator was made, and leads to what follows: that is one step
pub conciliator_step :
    (t : QuorumTable) (place : ConciliatorPlace) (makes : Op → ℕ → Type 0) (op : Op) (seen word : ℕ) (follows : Next)
    → IsConciliatorOp place op → makes op seen → ConciliatorReaches t place seen word follows
    → IsStep t (InConciliator place) makes word follows
conciliator_step t place makes op seen word follows is made reaches =
    record { op = op; seen = seen; is = is; made = made; reached = reached }
  where
    -- a process at this place reaches what follows if the access can find `seen`. Only a conciliator has such a place
    reached :
        (kind : Kind) (v : ℕ) (turns : List Turn) → PcIsAt t kind v (InConciliator place) turns
        → CanFind t (InConciliator place) op seen
        → IsReached t kind v follows (record { act = act_of op seen; word = word } ∷ turns)
    reached (Conciliator s) v turns at can = reaches s v turns op at is can
    reached Ratifier v turns at can = absurd at
    reached LastObject v turns at can = absurd at

-- the next access of a place in a ratifier was made, and leads to what follows: that is one step
pub ratifier_step :
    (t : QuorumTable) (place : RatifierPlace) (makes : Op → ℕ → Type 0) (op : Op) (seen word : ℕ) (follows : Next)
    → IsRatifierOp t place op → makes op seen → RatifierReaches t place seen follows
    → IsStep t (InRatifier place) makes word follows
ratifier_step t place makes op seen word follows is made reaches =
    record { op = op; seen = seen; is = is; made = made; reached = reached }
  where
    -- a process at this place reaches what follows if the access can find `seen`. Only a ratifier has such a place
    reached :
        (kind : Kind) (v : ℕ) (turns : List Turn) → PcIsAt t kind v (InRatifier place) turns
        → CanFind t (InRatifier place) op seen
        → IsReached t kind v follows (record { act = act_of op seen; word = word } ∷ turns)
    reached (Conciliator s) v turns at can = absurd at
    reached LastObject v turns at can = absurd at
    reached Ratifier v turns at can = reaches v turns op word at is can

-- the next access of a place in a last object was made, and leads to what follows: that is one step
pub last_step :
    (t : QuorumTable) (place : LastPlace) (makes : Op → ℕ → Type 0) (op : Op) (seen word : ℕ) (follows : Next)
    → IsLastOp place op → makes op seen → LastReaches t place seen follows
    → IsStep t (InLast place) makes word follows
last_step t place makes op seen word follows is made reaches =
    record { op = op; seen = seen; is = is; made = made; reached = reached }
  where
    -- a process at this place reaches what follows if the access can find `seen`. Only a last object has such a place
    reached :
        (kind : Kind) (v : ℕ) (turns : List Turn) → PcIsAt t kind v (InLast place) turns
        → CanFind t (InLast place) op seen
        → IsReached t kind v follows (record { act = act_of op seen; word = word } ∷ turns)
    reached (Conciliator s) v turns at can = absurd at
    reached Ratifier v turns at can = absurd at
    reached LastObject v turns at can = reaches v turns op word at is can
