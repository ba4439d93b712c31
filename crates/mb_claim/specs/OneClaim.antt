-- A claim between its accesses, as its callers see it.
use Rattle.std.specs.Prelude.{ℕ, suc, ◌≡◌, ◌+◌, ◌<◌, Bool, List, ◌∷◌, drop, length}
use Rattle.mb_deciding.specs.Vocabulary.{turns_left, IsPlace, IsOpAt, CanFind}
use Rattle.mb_claim.specs.ObjectTypes.{Pc}
use Rattle.mb_claim.specs.Types.{ClaimAccess, ClaimOp, ObjectTurn, Stage, Going, Won, Lost, Undecided, Claim, Layout}
use Rattle.mb_claim.specs.History.{part_on}
use Rattle.mb_claim.specs.Layouts.{quorums_of, kinds_of, claims_in, most_on_objects}
use Rattle.mb_claim.specs.States.{IsMemoryOf, step_of}
use Rattle.mb_claim.specs.Standing.{IsClaimOf}

-- the consumer of a claim
abbrev pub consumer_of : Claim → ℕ
consumer_of claim = claim.consumer

-- how far a claim has come
abbrev pub claim_stage : Claim → Stage
claim_stage claim = claim.stage

-- the claim, but with this place on its object
abbrev pub placed_at : Pc → Claim → Claim
placed_at pc claim =
    record {
      consumer = claim.consumer;
      object = claim.object;
      place = pc;
      stage = claim.stage;
      begun = claim.begun;
    }

-- whether a claim has made an access
abbrev pub is_begun : Claim → Bool
is_begun claim = claim.begun

-- a claim stands on one of the layout's objects, at a place over the layout's quorum table
pub record IsOnObject (layout : Layout) (claim : Claim) : Type 0 where
  -- the layout has the object
  pub object : claim.object < length (kinds_of layout)
  -- the place is one over the layout's quorum table: its values and registers are the table's
  pub place : IsPlace (quorums_of layout) claim.place

-- a claim that is going stands on one of the layout's objects, so its calls may be made with this layout
abbrev pub FitsLayout : Layout → Claim → Type 0
FitsLayout layout claim = claim_stage claim ≡ Going → IsOnObject layout claim

-- the claim makes this access next
pub record IsNextOp (layout : Layout) (claim : Claim) (next : ClaimOp) : Type 0 where
  -- the access is on the object where the claim stands
  pub object : next.object ≡ claim.object
  -- the access is the load, store or exchange of the claim's place there
  pub op : IsOpAt (quorums_of layout) claim.place next.op

-- what a claim's next access may find: a load or an exchange finds a value that the word can hold. In a conciliator
-- that is not 0 if the claim has stored there
abbrev pub CanClaimFind : Layout → Claim → ClaimOp → ℕ → Type 0
CanClaimFind layout claim next seen = CanFind (quorums_of layout) claim.place next.op seen

-- the claim belongs to a consumer of the layout, which has made these turns on the cell
abbrev pub IsClaimIn : Layout → Claim → List ObjectTurn → Type 0
IsClaimIn layout claim xs = IsClaimOf (quorums_of layout) (kinds_of layout) claim xs

-- ---- one step
-- the next access of the claim was made with the random word, and led to the claim that follows. `makes` says what was
-- made and what it found
pub record IsClaimStep (layout : Layout) (claim : Claim) (makes : ClaimOp → ℕ → Type 0) (word : ℕ) (follows : Claim)
    : Type 0 where
  -- the access, and the value that it found
  pub next : ClaimOp
  pub seen : ℕ
  -- this access is the claim's next one, and it was made
  pub is : IsNextOp layout claim next
  pub made : makes next seen
  -- if the access can find that value, the turn that it makes is one more on the claim's path
  pub path :
      (xs : List ObjectTurn) → IsClaimIn layout claim xs → CanClaimFind layout claim next seen
      → IsClaimIn layout follows (step_of next.object next.op seen word ∷ xs)

-- ---- the accesses that are left
-- the most accesses that a claim with this stage can still make from its place on this object: those that are left on
-- the object, and all that the objects after it allow
abbrev pub steps_left_at : Layout → Stage → ℕ → Pc → ℕ
steps_left_at layout Going object pc =
    turns_left (quorums_of layout) pc + most_on_objects (quorums_of layout) (drop (suc object) (kinds_of layout))
steps_left_at layout Won object pc = 0
steps_left_at layout (Lost winner) object pc = 0
steps_left_at layout Undecided object pc = 0

-- the most accesses that a claim can still make
abbrev pub steps_left : Layout → Claim → ℕ
steps_left layout claim = steps_left_at layout claim.stage claim.object claim.place

-- ---- a claim, the words and a history
-- the access of the claim's consumer that makes this step on cell k
abbrev pub claim_access : Claim → ℕ → ObjectTurn → ClaimAccess
claim_access claim k step = record { consumer = consumer_of claim; cell = k; step = step }

-- one lawful history of the layout's claims on `cells` cells leaves the words, and has the claim's accesses on cell k
pub record IsClaimOn (layout : Layout) (cells k : ℕ) (claim : Claim) (words : List ℕ)
    (h : List ClaimAccess) : Type 0 where
  -- the cell is one of these cells
  pub cell : k < cells
  -- the history leaves the words
  pub memory : IsMemoryOf (claims_in layout cells) words h
  -- the claim is the claim of a consumer that has made its part of the history on the cell
  pub standing : IsClaimIn layout claim (part_on (consumer_of claim) k h)
