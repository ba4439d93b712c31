-- What the laws of claims and of cells give for a history of a world whose accesses to cells are lawful.
use Rattle.std.specs.Prelude.{ℕ, ◌≡◌, ◌<◌, List}
use Rattle.mb_world.specs.Imports.{Has, HasMet, IsClaimPrefix, IsOnceEach, IsStart, ObjectTurn, Stage, linked_cells}
use Rattle.mb_world.specs.Plan.{Plan}
use Rattle.mb_world.specs.World.{WorldHistory, pool_accesses}

pub record WorldKnown (plan : Plan) (h : WorldHistory) : Type 0 where
  -- the cells that a reader met on a lane are the first that were linked there
  pub start : (q p : ℕ) (ks : List ℕ) → HasMet q p ks (pool_accesses h) → IsStart ks (linked_cells p (pool_accesses h))
  -- a linked cell is one of the pool's. Each cell is linked at most once in a lane, and in at most one lane
  pub once : (p : ℕ) → IsOnceEach (linked_cells p (pool_accesses h))
  pub within : (p k : ℕ) → Has (linked_cells p (pool_accesses h)) k → k < plan.claims.cells
  pub one_lane : (p q k : ℕ) → Has (linked_cells p (pool_accesses h)) k → Has (linked_cells q (pool_accesses h)) k
      → p ≡ q
  -- a claim has at most one stage
  pub stage : (c : ℕ) (xs : List ObjectTurn) (s r : Stage) → IsClaimPrefix plan.claims c xs s
      → IsClaimPrefix plan.claims c xs r → s ≡ r
