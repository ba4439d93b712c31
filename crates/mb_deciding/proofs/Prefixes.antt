-- Prefixes of a ratifier's path as lists of acts, and the same as lists of turns.
use Rattle.std.proofs.Common.{◌≢◌, ℕ, ◌+◌, ◌≤◌, Bool, true, List, [], ◌∷◌, ◌++◌, inl, sym, refl, ap, ◌∙◌, subst}
use Rattle.std.proofs.Common.{append_assoc, arith}
use Rattle.mb_quorum.specs.Quorum.{QuorumTable}
use Rattle.mb_deciding.specs.{Proposal, Quorum, Act, Load, Store, Turn, Ratifier, acts, stores_below, zeros_below}
use Rattle.mb_deciding.specs.{announcement, Prefers, ReadsClear, IsRatifierPath, answer, IsPath, IsPrefix, IsOpen}
use Rattle.mb_deciding.proofs.Histories.{not_empty}
use Rattle.mb_deciding.proofs.Acts.{acts-append, turns_for, acts-turns_for}
use Rattle.mb_deciding.proofs.Registers.{each_grow}

-- ---- prefixes of paths, in acts
-- the acts are a prefix of a path: later acts, or none, complete it
abbrev pub IsRatifierPart : QuorumTable → ℕ → List Act → Type 0
IsRatifierPart t v made = (later : List Act) × (decided : Bool) × (u : ℕ) × IsRatifierPath t v (later ++ made) decided u

-- the acts are an open prefix of a path: later acts, at least one, complete it
abbrev pub IsRatifierOpen : QuorumTable → ℕ → List Act → Type 0
IsRatifierOpen t v made =
    (later : List Act) × (later ≢ []) × ((decided : Bool) × (u : ℕ) × IsRatifierPath t v (later ++ made) decided u)

-- an open prefix is a prefix
pub open_part : (t : QuorumTable) (v : ℕ) (made : List Act) → IsRatifierOpen t v made → IsRatifierPart t v made
open_part t v made h = (h.0, h.2.0, h.2.1, h.2.2)

-- a list with one more element at its end is not empty
some_snoc : (xs : List Act) (x : Act) → xs ++ x ∷ [] ≢ []
some_snoc [] x = not_empty x []
some_snoc (y ∷ xs) x = not_empty y (xs ++ x ∷ [])

-- a prefix without its newest act is an open prefix
pub part_older :
    (t : QuorumTable) (v : ℕ) (x : Act) (made : List Act) → IsRatifierPart t v (x ∷ made) → IsRatifierOpen t v made
part_older t v x made h = (
  h.0 ++ x ∷ [],
  some_snoc h.0 x,
  (
    h.1,
    h.2,
    subst (λ xs. IsRatifierPath t v xs h.1 h.2)
        (sym (append_assoc h.0 (x ∷ []) made)) h.3,
  ),
)

-- an open prefix without its newest acts is an open prefix
open_suffix :
    (t : QuorumTable) (v : ℕ) (later made : List Act) → IsRatifierOpen t v (later ++ made) → IsRatifierOpen t v made
open_suffix t v [] made h = h
open_suffix t v (x ∷ later) made h =
    open_suffix t v later made (part_older t v x (later ++ made) (open_part t v (x ∷ later ++ made) h))

-- a whole path is a prefix
pub path_part :
    (t : QuorumTable) (v : ℕ) (made : List Act) (d : Bool) (u : ℕ) → IsRatifierPath t v made d u
    → IsRatifierPart t v made
path_part t v made d u h = ([], d, u, h)

-- acts with a preference, and loads of 0 from its read quorum below a bound, are a prefix
pub clear_part :
    (t : QuorumTable) (v u n : ℕ) (made : List Act) → n ≤ t.registers → ReadsClear t v u n made
    → IsRatifierPart t v made
clear_part t v u n made within h =
    let grown = each_grow (λ r. Load (Quorum r) 0) t.registers (t.read u) n within in (
      grown.0,
      true,
      u,
      (
        h.0,
        h.1,
        ap (λ xs. grown.0 ++ xs) h.2 ∙
            (sym (append_assoc grown.0 (zeros_below n (t.read u)) h.0) ∙ ap (λ xs. xs ++ h.0) grown.1),
      ),
    )

-- the acts up to a preference are a prefix
prefers_part : (t : QuorumTable) (v u : ℕ) (made : List Act) → Prefers t v u made → IsRatifierPart t v made
prefers_part t v u made h = clear_part t v u 0 made (omega arith) (made, h, refl)

-- the announcement and the load of an empty proposal are an open prefix
pub empty_open : (t : QuorumTable) (v : ℕ) → IsRatifierOpen t v (Load Proposal 0 ∷ announcement t v)
empty_open t v =
    part_older t v (Store Proposal (v + 1)) (Load Proposal 0 ∷ announcement t v)
    (prefers_part t v v (Store Proposal (v + 1) ∷ Load Proposal 0 ∷ announcement t v) (inl (refl, refl)))

-- the announcement's stores below a bound are an open prefix
pub stores_open : (t : QuorumTable) (v n : ℕ) → n ≤ t.registers → IsRatifierOpen t v (stores_below n (t.write v))
stores_open t v n within =
    let grown = each_grow (λ r. Store (Quorum r) 1) t.registers (t.write v) n within in
    let whole = part_older t v (Load Proposal 0) (announcement t v)
    (open_part t v (Load Proposal 0 ∷ announcement t v) (empty_open t v)) in
    open_suffix t v grown.0 (stores_below n (t.write v)) (rw grown.1 whole)

-- ---- from acts to turns
-- if later acts complete the acts of turns to a path, turns made for those acts complete the turns
path_by_turns :
    (t : QuorumTable) (v : ℕ) (later : List Act) (turns : List Turn) (d : Bool) (u : ℕ)
    → IsRatifierPath t v (later ++ acts turns) d u → IsPath t Ratifier v (turns_for later ++ turns) (answer d u)
path_by_turns t v later turns d u h =
    subst (λ xs. IsRatifierPath t v xs d u) (sym (acts-append (turns_for later) turns ∙ ap (λ xs. xs ++ acts turns)
    (acts-turns_for later))) h

-- if the acts of turns are a prefix of a path, so are the turns
pub part_by_turns :
    (t : QuorumTable) (v : ℕ) (turns : List Turn) → IsRatifierPart t v (acts turns) → IsPrefix t Ratifier v turns
part_by_turns t v turns p = (turns_for p.0, answer p.1 p.2, path_by_turns t v p.0 turns p.1 p.2 p.3)

-- if the acts of turns are an open prefix of a path, so are the turns
pub open_by_turns :
    (t : QuorumTable) (v : ℕ) (turns : List Turn) → IsRatifierOpen t v (acts turns) → IsOpen t Ratifier v turns
open_by_turns t v turns p = (
  turns_for p.0,
  (λ e. p.1 (sym (acts-turns_for p.0) ∙ ap acts e)),
  (answer p.2.0 p.2.1, path_by_turns t v p.0 turns p.2.0 p.2.1 p.2.2),
)
