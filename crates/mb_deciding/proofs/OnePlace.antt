-- If the same turns led to two places, both have the same next op.
use Rattle.std.proofs.Common.{◌≡◌, ℕ, ◌+◌, List, [], ◌∷◌, false, refl, sym, ap, ap₂, subst, arith}
use Rattle.mb_quorum.specs.Quorum.{QuorumTable, IsQuorumTable}
use Rattle.mb_deciding.specs.{Value, Proposal, Quorum, Last, Kind, Conciliator, Ratifier, LastObject, Pc, InRatifier}
use Rattle.mb_deciding.specs.{InConciliator, InLast, Draw}
use Rattle.mb_deciding.specs.{Put, Look, RatifierPlace}
use Rattle.mb_deciding.specs.{Load, Store, Op, Turn, answer, acts, IsPrefix, IsSameOp, PcIsAt, IsOpAt, CanFind}
use Rattle.mb_deciding.specs.{act_of}
use Rattle.mb_deciding.specs.declared.access.Op.TheVariants as to
use Rattle.mb_deciding.proofs.ConciliatorPlaces.{put_looks, look_ends, drawing_open}
use Rattle.mb_deciding.proofs.OneTrace.{next_op}
use Rattle.mb_deciding.proofs.Lasts.{last_prefix}
use Rattle.mb_deciding.proofs.Prefixes.{part_by_turns}
use Rattle.mb_deciding.proofs.RatifierStepping.{checking_next}
use Rattle.mb_deciding.proofs.ConciliatorStepping.{missed_open, open_turns}

-- two ops are equal if the acts that they make are of one op (`IsSameOp`)
same_ops : (op next : Op) (x y : ℕ) → IsSameOp (act_of op x) (act_of next y) → op ≡ next
same_ops (to.Load reg) (to.Load other) x y e = ap to.Load e
same_ops (to.Load reg) (to.Store other w) x y e = absurd e
same_ops (to.Store reg w) (to.Load other) x y e = absurd e
same_ops (to.Store reg w) (to.Store other n) x y e = ap₂ to.Store e.0 e.1
same_ops (to.Exchange reg w) (to.Exchange other n) x y e = ap₂ to.Exchange e.0 e.1
same_ops (to.Exchange reg w) (to.Load other) x y e = absurd e
same_ops (to.Exchange reg w) (to.Store other n) x y e = absurd e
same_ops (to.Load reg) (to.Exchange other n) x y e = absurd e
same_ops (to.Store reg w) (to.Exchange other n) x y e = absurd e

-- at a place in a ratifier each op can find 0
zero_found : (t : QuorumTable) (place : RatifierPlace) (op : Op) → CanFind t (InRatifier place) op 0
zero_found t place (to.Load Value) = tt
zero_found t place (to.Load Proposal) = omega arith
zero_found t place (to.Load (Quorum r)) = omega arith
zero_found t place (to.Load Last) = tt
zero_found t place (to.Store reg w) = tt
zero_found t place (to.Exchange reg w) = tt

-- there is a value with which the next op of a place makes a turn that, with the turns before, is a prefix of a path
some_part :
    (t : QuorumTable) (kind : Kind) (v : ℕ) (turns : List Turn) (pc : Pc) (op : Op) → IsQuorumTable t
    → PcIsAt t kind v pc turns → IsOpAt t pc op → (x : ℕ) × IsPrefix t kind v
    (record { act = act_of op x; word = 0 } ∷ turns)
some_part t Ratifier v turns (InRatifier place) op q at is = (
  0,
  part_by_turns t v (record { act = act_of op 0; word = 0 } ∷ turns)
      (checking_next t q v place (acts turns) op 0 at.0 at.1 is (zero_found t place op)),
)
some_part t Ratifier v turns (InConciliator place) op q at is = absurd at
some_part t Ratifier v turns (InLast place) op q at is = absurd at
some_part t (Conciliator s) v turns (InLast place) op q at is = absurd at
some_part t LastObject v turns (InRatifier place) op q at is = absurd at
some_part t LastObject v turns (InConciliator place) op q at is = absurd at
some_part t LastObject v turns (InLast place) op q at is = (0, last_prefix t v place turns op 0 0 at is)
some_part t (Conciliator s) v turns (InRatifier place) op q at is = absurd at
some_part t (Conciliator s) v turns (InConciliator (Draw input limit modulus)) op q at is = (
  0,
  subst (λ o. IsPrefix t (Conciliator s) v (record { act = act_of o 0; word = 0 } ∷ turns)) (sym is)
      (open_turns t (Conciliator s) v (record { act = Load Value 0; word = 0 } ∷ turns)
      (missed_open t s v input limit modulus 0 turns at.1)),
)
some_part t (Conciliator s) v turns (InConciliator (Put input)) op q at is = (
  0,
  subst (λ o. IsPrefix t (Conciliator s) v (record { act = act_of o 0; word = 0 } ∷ turns)) (sym is)
      (open_turns t (Conciliator s) v (record { act = Store Value (input + 1); word = 0 } ∷ turns)
      (drawing_open t s v (Look input) (record { act = Store Value (input + 1); word = 0 } ∷ turns)
      (put_looks s v input 0 turns at.1))),
)
some_part t (Conciliator s) v turns (InConciliator (Look input)) op q at is = (
  1,
  subst (λ o. IsPrefix t (Conciliator s) v (record { act = act_of o 1; word = 0 } ∷ turns)) (sym is)
      ([], answer false 0, (refl, look_ends s v input 1 0 turns at.1 (omega arith))),
)

-- if the same turns led to two places, the next ops of both are equal
pub one_next :
    (t : QuorumTable) (kind : Kind) (v : ℕ) (turns : List Turn) (pc other : Pc) (op next : Op) → IsQuorumTable t
    → PcIsAt t kind v pc turns → PcIsAt t kind v other turns → IsOpAt t pc op → IsOpAt t other next → op ≡ next
one_next t kind v turns pc other op next q at here is that =
    let (x, a) = some_part t kind v turns pc op q at is in
    let (y, b) = some_part t kind v turns other next q here that in
    same_ops op next x y
    (next_op t kind v turns (record { act = act_of op x; word = 0 }) (record { act = act_of next y; word = 0 }) a b)
