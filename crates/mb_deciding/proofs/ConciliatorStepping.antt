-- A process at its place in a conciliator: with its next turn it has a prefix of a path. Also what that turn may find.
use Rattle.std.proofs.Common.{ℕ, ◌+◌, ◌-◌, ◌*◌, ◌%◌, false, List, [], ◌∷◌, inl, inr}
use Rattle.std.proofs.Common.{sym, refl, subst, arith}
use Rattle.std.proofs.lemmas.Bool.{cases_eq, cases_lt}
use Rattle.mb_deciding.specs.{Value, Load, Store, Op, Turn, Access, Kind, Conciliator}
use Rattle.mb_deciding.specs.{InConciliator}
use Rattle.mb_deciding.specs.{ConciliatorPlace, Draw, Put, Look, conciliator_of, value_in, part}
use Rattle.mb_deciding.specs.{answer, IsPrefix, IsOpen, IsObjectLawful}
use Rattle.mb_deciding.specs.{IsInConciliator, IsConciliatorOp}
use Rattle.mb_deciding.specs.{CanFind, HasReg, reg_of, seen_by, turn_after}
use Rattle.mb_quorum.specs.Quorum.{QuorumTable}
use Rattle.mb_deciding.proofs.Conciliators.{put_filled, value_small}
use Rattle.mb_deciding.proofs.ConciliatorPlaces.{draw_missed, draw_found, draw_ends, put_looks, look_ends, drawing_open}

-- if the load of an attempt finds 0, the turns with it are an open prefix of a path: later turns complete it
pub missed_open :
    (t : QuorumTable) (s v input limit modulus word : ℕ) (turns : List Turn)
    → IsInConciliator s v (Draw input limit modulus) turns
    → IsOpen t (Conciliator s) v (record { act = Load Value 0; word = word } ∷ turns)
missed_open t s v input limit modulus word turns at =
    let next : List Turn = record { act = Load Value 0; word = word } ∷ turns in
    elim (cases_lt (word % modulus) limit) [
      | inl stores ↦ drawing_open t s v (Put input) next (draw_found s v input limit modulus word turns at stores)
      | inr none ↦ drawing_open t s v (Draw input (limit * 2) modulus) next
          (draw_missed s v input limit modulus word turns at none)
    ]

-- an open prefix of a path is a prefix of it
pub open_turns :
    (t : QuorumTable) (kind : Kind) (v : ℕ) (turns : List Turn) → IsOpen t kind v turns → IsPrefix t kind v turns
open_turns t kind v turns p = (p.0, p.2.0, p.2.1)

-- if a process's next turn finds what a lawful history leaves in the word, its part with it is a prefix of a path
pub drawing_next :
    (t : QuorumTable) (s : ℕ) (inputs : ℕ → ℕ) (h : List Access) (p : ℕ) (place : ConciliatorPlace) (op : Op) (word : ℕ)
    → IsObjectLawful (conciliator_of t s inputs) h → IsInConciliator s (inputs p) place (part p h)
    → IsConciliatorOp place op
    → IsPrefix t (Conciliator s) (inputs p) (turn_after op word h ∷ part p h)
drawing_next t s inputs h p (Draw input limit modulus) op word l at is =
    subst (λ o. IsPrefix t (Conciliator s) (inputs p) (turn_after o word h ∷ part p h)) (sym is)
    (elim (cases_eq (value_in Value h) 0) [
      | inl e ↦ subst (λ n. IsPrefix t (Conciliator s) (inputs p)
          (record { act = Load Value n; word = word } ∷ part p h)) (sym e)
          (open_turns t (Conciliator s) (inputs p) (record { act = Load Value 0; word = word } ∷ part p h)
          (missed_open t s (inputs p) input limit modulus word (part p h) at))
      | inr some ↦ (
        [],
        answer false (value_in Value h - 1),
        (refl, draw_ends s (inputs p) input limit modulus (value_in Value h) word (part p h) at (omega arith)),
      )
    ])
drawing_next t s inputs h p (Put input) op word l at is =
    subst (λ o. IsPrefix t (Conciliator s) (inputs p) (turn_after o word h ∷ part p h)) (sym is)
    (open_turns t (Conciliator s) (inputs p) (record { act = Store Value (input + 1); word = word } ∷ part p h)
    (drawing_open t s (inputs p) (Look input) (record { act = Store Value (input + 1); word = word } ∷ part p h)
    (put_looks s (inputs p) input word (part p h) at)))
drawing_next t s inputs h p (Look input) op word l at is =
    subst (λ o. IsPrefix t (Conciliator s) (inputs p) (turn_after o word h ∷ part p h)) (sym is) (
      [],
      answer false (value_in Value h - 1),
      (
        refl,
        look_ends s (inputs p) input (value_in Value h) word (part p h) at
            (put_filled t s inputs h l p at.1.0 (part p h) refl at.1.2),
      ),
    )

-- after a lawful history a process's next load finds a value that the word can hold, and not 0 after its own store
pub drawing_found :
    (t : QuorumTable) (s : ℕ) (inputs : ℕ → ℕ) (h : List Access) (p : ℕ) (place : ConciliatorPlace) (op : Op)
    → IsObjectLawful (conciliator_of t s inputs) h → IsInConciliator s (inputs p) place (part p h)
    → IsConciliatorOp place op
    → CanFind t (InConciliator place) op (seen_by op h)
drawing_found t s inputs h p (Draw input limit modulus) op l at is =
    subst (λ o. CanFind t (InConciliator (Draw input limit modulus)) o (seen_by o h)) (sym is)
    (value_small t s inputs h l)
drawing_found t s inputs h p (Put input) op l at is =
    subst (λ o. CanFind t (InConciliator (Put input)) o (seen_by o h)) (sym is) tt
drawing_found t s inputs h p (Look input) op l at is =
    subst (λ o. CanFind t (InConciliator (Look input)) o (seen_by o h)) (sym is)
    (put_filled t s inputs h l p at.1.0 (part p h) refl at.1.2, value_small t s inputs h l)

-- the op that comes next at a place in a conciliator goes to the conciliator's word
pub drawing_word : (r s : ℕ) (place : ConciliatorPlace) (op : Op) → IsConciliatorOp place op → HasReg r (Conciliator s)
    (reg_of op)
drawing_word r s (Draw input limit modulus) op is = subst (λ o. HasReg r (Conciliator s) (reg_of o)) (sym is) tt
drawing_word r s (Put input) op is = subst (λ o. HasReg r (Conciliator s) (reg_of o)) (sym is) tt
drawing_word r s (Look input) op is = subst (λ o. HasReg r (Conciliator s) (reg_of o)) (sym is) tt
