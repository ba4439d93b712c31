-- One winner: what holds of the claims on one cell.
use Rattle.std.specs.Prelude.{ℕ, ◌≡◌, ◌≢◌, List, [], Some, slice_get}
use Rattle.mb_quorum.specs.Vocabulary.{IsMember}
use Rattle.mb_deciding.specs.Vocabulary.{part, acts, Has, object_of, IsObjectLawful}
use Rattle.mb_claim.specs.AllClaims.{Claims}
use Rattle.mb_claim.specs.ObjectTypes.{Quorum, Store, Kind, Ratifier}
use Rattle.mb_claim.specs.Types.{ClaimAccess, Stage, Going, Won, Lost, Undecided}
use Rattle.mb_claim.specs.History.{part_on, part_at, object_history}
use Rattle.mb_claim.specs.Paths.{Enters}
use Rattle.mb_claim.specs.Claiming.{HasStage}

-- the stage s of consumer c names w as the winner
abbrev pub StageNames : ℕ → Stage → ℕ → Type 0
StageNames c Going w = ⊥
StageNames c Won w = w ≡ c
StageNames c (Lost u) w = w ≡ u
StageNames c Undecided w = ⊥

-- object o of a cell is of this kind, and consumers use it with these inputs on cell k. What they do there is what
-- processes do on one object alone
pub record IsUsedWith (cs : Claims) (k o : ℕ) (kind : Kind) (inputs : ℕ → ℕ)
    (h : List ClaimAccess) : Type 0 where
  pub is : slice_get cs.kinds o ≡ Some kind
  -- the accesses there are a lawful history of the object with these inputs
  pub lawful : IsObjectLawful (object_of cs.table kind inputs) (object_history k o h)
  -- each consumer with an access there has come to the object with its input
  pub enters :
      (c : ℕ) → part_at c k o h ≢ [] → Enters cs.table cs.kinds 0 c (part_on c k h) o (inputs c)

-- a consumer whose input to object o of cell k is u has stored there in a register of u's write quorum
abbrev pub IsClaimAnnounced : Claims → ℕ → ℕ → ℕ → List ClaimAccess → Type 0
IsClaimAnnounced cs k o u h =
    (c r : ℕ) × Enters cs.table cs.kinds 0 c (part_on c k h) o u × IsMember (cs.table.write u) r
    × Has (acts (part c (object_history k o h))) (Store (Quorum r) 1)

-- two different values were announced to object o of cell k
abbrev pub IsClaimContested : Claims → ℕ → ℕ → List ClaimAccess → Type 0
IsClaimContested cs k o h =
    (u w : ℕ) × (u ≢ w) × IsClaimAnnounced cs k o u h × IsClaimAnnounced cs k o w h

-- all claims on cell k that are won or lost name one winner. The fields also say when a claim is undecided
pub record HasOneWinner (cs : Claims) (k : ℕ) (h : List ClaimAccess) : Type 0 where
  -- all who have won or lost name one winner
  pub same :
      (c d u w : ℕ) (s r : Stage) → HasStage cs c k s h → HasStage cs d k r h → StageNames c s u
      → StageNames d r w
      → u ≡ w
  -- a consumer that has lost names another consumer
  pub other : (c w : ℕ) → HasStage cs c k (Lost w) h → w ≢ c
  -- the winner has an access to the cell
  pub competed : (c u : ℕ) (s : Stage) → HasStage cs c k s h → StageNames c s u → part_on u k h ≢ []
  -- a claim is undecided only if in each ratifier two different values were announced
  pub contested :
      (c o : ℕ) → HasStage cs c k Undecided h → slice_get cs.kinds o ≡ Some Ratifier
      → IsClaimContested cs k o h
  -- if there is a ratifier, a consumer that is alone on the cell is never undecided
  pub company :
      (c o : ℕ) → HasStage cs c k Undecided h → slice_get cs.kinds o ≡ Some Ratifier
      → (d : ℕ) × (d ≢ c) × (part_on d k h ≢ [])
