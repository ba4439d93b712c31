-- What deciding objects promise their users.
use Rattle.std.specs.Prelude.{◌≡◌, ◌≢◌, ℕ, ◌+◌, ◌<◌, ◌≤◌, Bool, true, false, List, [], ◌∷◌, ◌++◌}
use Rattle.std.specs.Prelude.{filter_map, length}
use Rattle.mb_deciding.specs.OneObject.{Object}
use Rattle.mb_quorum.specs.Quorum.{IsMember}
use Rattle.mb_deciding.specs.Types.{Reg, Proposal, Act, Load, Turn, Access, Out}
use Rattle.mb_deciding.specs.History.{value_in, stored_by, part, acts, Has}
use Rattle.mb_deciding.specs.RatifierPaths.{ReadsClear}
use Rattle.mb_deciding.specs.Objects.{IsPath, IsOpen, IsObjectLawful, HasOutput, IsAnnounced, CanHold, most_turns}

-- validity: each output is the input of a process with an access
abbrev pub IsValid : Object → List Access → Type 0
IsValid o h =
    (p : ℕ) (d : Bool) (u : ℕ) → HasOutput o p d u h → (q : ℕ) × (part q h ≢ []) × (o.inputs q ≡ u)

-- coherence: if one process has (1, u), every output has the value u
abbrev pub IsCoherent : Object → List Access → Type 0
IsCoherent o h =
    (p q : ℕ) (d : Bool) (u w : ℕ) → HasOutput o p true u h → HasOutput o q d w h → w ≡ u

-- acceptance, of a ratifier: if all processes with an access have the input v, every output is (1, v)
abbrev pub IsAccepted : Object → List Access → Type 0
IsAccepted o h =
    (v : ℕ) → ((q : ℕ) → part q h ≢ [] → o.inputs q ≡ v)
    → (p : ℕ) (d : Bool) (u : ℕ) → HasOutput o p d u h → (d ≡ true) × (u ≡ v)

-- contention, of a ratifier: it has an output (0, u) only if u itself and another value were announced
abbrev pub IsContested : Object → List Access → Type 0
IsContested o h =
    (p u : ℕ) → HasOutput o p false u h
    → IsAnnounced o u h × ((w : ℕ) × (w ≢ u) × IsAnnounced o w h)

-- What a clear read of a ratifier rules out. A process p has loaded the registers of u's read quorum below the bound
-- and found 0 in each, whatever it did later. Then no process b that has an input other than u, and loaded 0 from the
-- proposal, has one of these registers in its write quorum
abbrev pub ChecksKeepOut : Object → List Access → Type 0
ChecksKeepOut o h =
    (p u bound b r : ℕ) (later made : List Act)
    → acts (part p h) ≡ later ++ made → ReadsClear o.table (o.inputs p) u bound made
    → Has (acts (part b h)) (Load Proposal 0) → o.inputs b ≢ u
    → r < bound → IsMember (o.table.read u) r → IsMember (o.table.write (o.inputs b)) r → ⊥

-- the values that the accesses of a history stored, the newest first
abbrev pub stores_in : List Access → List ℕ
stores_in h = filter_map (λ a. stored_by a.turn.act) h

-- first mover, of a conciliator: if only one store was made, the number stored is u + 1 for the value u of every output
abbrev pub IsFirstMover : Object → List Access → Type 0
IsFirstMover o h =
    (w : ℕ) → stores_in h ≡ w ∷ [] → (p : ℕ) (d : Bool) (u : ℕ) → HasOutput o p d u h → w ≡ u + 1

-- an object of any kind keeps these promises
pub record IsDeciding (o : Object) : Type 0 where
  -- each input has a path, with at least one turn
  pub opens : (v : ℕ) → v < o.table.values → IsOpen o.table o.kind v []
  -- a path ends once, with one output
  pub unique :
      (v : ℕ) (turns later : List Turn) (a b : Out)
      → IsPath o.table o.kind v turns a → IsPath o.table o.kind v (later ++ turns) b
      → (later ≡ []) × (a ≡ b)
  -- no process has more turns than `most_turns` of the object's kind
  pub bounded :
      (h : List Access) (p : ℕ) → IsObjectLawful o h → length (part p h) ≤ most_turns o.table o.kind
  -- each word holds a number that a word of this name can hold: 0, or one more than a value. A register holds 0 or 1
  pub fits :
      (h : List Access) (reg : Reg) → IsObjectLawful o h → CanHold o.table reg (value_in reg h)
  -- validity, in every lawful history
  pub validity : (h : List Access) → IsObjectLawful o h → IsValid o h
  -- coherence, in every lawful history
  pub coherence : (h : List Access) → IsObjectLawful o h → IsCoherent o h

-- a ratifier keeps these promises, too
pub record IsRatifying (o : Object) : Type 0 where
  -- acceptance, in every lawful history
  pub acceptance : (h : List Access) → IsObjectLawful o h → IsAccepted o h
  -- an undecided output was contested, in every lawful history
  pub contested : (h : List Access) → IsObjectLawful o h → IsContested o h
