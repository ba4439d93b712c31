-- Lawful histories of claims, and what one more access adds to them.
use Rattle.std.specs.Prelude.{ℕ, ◌≡◌, ◌≢◌, ◌==◌, ◌<◌, if◌then◌else◌, List, [], ◌∷◌}
use Rattle.mb_deciding.specs.Vocabulary.{value_after, ReadsLast, IsInWords}
use Rattle.mb_claim.specs.AllClaims.{Claims}
use Rattle.mb_claim.specs.ObjectTypes.{Reg}
use Rattle.mb_claim.specs.Types.{ClaimAccess, ObjectTurn, Stage}
use Rattle.mb_claim.specs.History.{part_on, object_history, held_at, IsMemoryTrue, AreInWords}
use Rattle.mb_claim.specs.Paths.{IsClaimPrefix}

-- these steps of consumer c on cell k belong to a claim: c is a consumer and k a cell of the claims, and the steps are
-- a prefix of c's claim path
abbrev pub IsClaimPart : Claims → ℕ → ℕ → List ObjectTurn → Type 0
IsClaimPart cs c k xs = (c < cs.table.values) × (k < cs.cells) × ((s : Stage)
    × IsClaimPrefix cs c xs s)

-- The history of claims is lawful. Nobody but the consumers of the claims made an access, and none
-- is to a cell that the claims do not have. The consumers are the values of the quorum table.
pub record IsClaimLawful (cs : Claims) (h : List ClaimAccess) : Type 0 where
  -- each load has what the older accesses left
  pub memory : IsMemoryTrue h
  -- values and random words are below 2 ^ 64
  pub words : AreInWords h
  -- what a consumer has done on a cell belongs to its claim there
  pub parts : (c k : ℕ) → part_on c k h ≢ [] → IsClaimPart cs c k (part_on c k h)

-- the claim of consumer c on cell k has the stage s
abbrev pub HasStage : Claims → ℕ → ℕ → Stage → List ClaimAccess → Type 0
HasStage cs c k s h = (c < cs.table.values) × IsClaimPrefix cs c (part_on c k h) s

-- the access may come next in the history. It is of a consumer and a cell of the claims, and in words. A load finds
-- what the history leaves in its word. With the access, the consumer's part on the cell is a prefix of its claim path
pub record MayFollow (cs : Claims) (a : ClaimAccess) (h : List ClaimAccess) : Type 0 where
  -- the access is of one of the consumers
  pub consumer : a.consumer < cs.table.values
  -- the access is on one of the cells
  pub cell : a.cell < cs.cells
  -- the access's value and random word are below 2 ^ 64
  pub words : IsInWords a.step.turn
  -- a load has what the history leaves in its word
  pub reads : ReadsLast a.step.turn.act (object_history a.cell a.step.object h)
  -- with the access, the consumer's part on the cell is a prefix of its claim path
  pub prefix : (s : Stage) × IsClaimPrefix cs a.consumer (a.step ∷ part_on a.consumer a.cell h) s

-- what a word of object o of cell k holds after an access, if it held n before
abbrev pub held_after : ℕ → ℕ → Reg → ClaimAccess → ℕ → ℕ
held_after k o reg a n =
    if a.cell == k then (if a.step.object == o then value_after reg a.step.turn.act n else n) else n

-- the access adds one step to one part of the history, and changes at most one word
pub record Adds (cs : Claims) (a : ClaimAccess) (h : List ClaimAccess) : Type 0 where
  -- the longer history is lawful
  pub lawful : IsClaimLawful cs (a ∷ h)
  -- the part of its consumer on its cell has one step more
  pub own : part_on a.consumer a.cell (a ∷ h) ≡ a.step ∷ part_on a.consumer a.cell h
  -- all other parts stay as they are
  pub others : (c k : ℕ) → (a.consumer ≡ c → a.cell ≡ k → ⊥) → part_on c k (a ∷ h) ≡ part_on c k h
  -- the access's word has what the access leaves in it, and each other word has what it had
  pub words : (k o : ℕ) (reg : Reg) → held_at k o reg (a ∷ h) ≡ held_after k o reg a
      (held_at k o reg h)
