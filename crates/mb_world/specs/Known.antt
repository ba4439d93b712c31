-- What the laws of claims and of cells give for two sound histories.
use Rattle.std.specs.Prelude.{ℕ, ◌≡◌, ◌≢◌, ◌<◌, List, [], ◌∷◌}
use Rattle.mb_claim.specs.Winner.{HasOneWinner}
use Rattle.mb_world.specs.Imports.{END, Gave, Has, HasLoaded, HasMet, IsClaimPrefix, IsOnceEach, IsReaderPath, IsStart, Item, ObjectTurn, Reader, Stage}
use Rattle.mb_world.specs.Imports.{claim_part, item_of, linked_cells, part, place_past}
use Rattle.mb_world.specs.Plan.{Histories, Plan, consumers_of}
use Rattle.mb_world.specs.Fitting.{Fits, parts_of}

pub record Known (plan : Plan) (hs : Histories) : Type 0 where
  -- all claims on a cell that are won or lost name one winner
  pub winner : (k : ℕ) → HasOneWinner plan.claims k hs.claims
  -- a claim has at most one stage
  pub stage : (c : ℕ) (xs : List ObjectTurn) (s r : Stage) → IsClaimPrefix plan.claims c xs s
      → IsClaimPrefix plan.claims c xs r → s ≡ r
  -- whoever made a step of a claim is a consumer, and its claim has a stage
  pub claimant : (c k : ℕ) → claim_part c k hs.claims ≢ []
      → (c < consumers_of plan) × ((s : Stage) × IsClaimPrefix plan.claims c (claim_part c k hs.claims) s)
  -- the two parts of each consumer fit
  pub fit : (c : ℕ) → c < consumers_of plan → Fits plan.claims c (parts_of c hs)
  -- what a reader did is a reader path
  pub path : (q : ℕ) → IsReaderPath plan.lanes (part (Reader q) hs.pool)
  -- the cells that a reader met on a lane are the first that were linked there
  pub start : (q p : ℕ) (ks : List ℕ) → HasMet q p ks hs.pool → IsStart ks (linked_cells p hs.pool)
  -- a reader that was given a cell met it on some lane
  pub chain : (q k : ℕ) → Gave k (part (Reader q) hs.pool) → (p : ℕ) × ((ks : List ℕ) × HasMet q p (k ∷ ks) hs.pool)
  -- a load of a cell's item found the item that the history has for the cell (`item_of`)
  pub item : (q k v : ℕ) → HasLoaded q (Item k) v hs.pool → v ≡ item_of k hs.pool
  -- if a reader loaded the end mark past these cells, which it met on a lane, they are all cells of the lane
  pub end : (q p : ℕ) (ks : List ℕ) → HasMet q p ks hs.pool → HasLoaded q (place_past p ks) END hs.pool
      → ks ≡ linked_cells p hs.pool
  -- a cell is linked in at most one lane, and at most once there
  pub one_lane : (p q k : ℕ) → Has (linked_cells p hs.pool) k → Has (linked_cells q hs.pool) k → p ≡ q
  pub once : (p : ℕ) → IsOnceEach (linked_cells p hs.pool)
