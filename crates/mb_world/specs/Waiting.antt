-- When a step of a consumer finds nothing.
use Rattle.std.specs.Prelude.{ℕ, ◌≡◌, ◌<◌, false, None, List}
use Rattle.mb_world.specs.declared.report.Note.{Note}
use Rattle.mb_world.specs.Imports.{has_ended, linked_cells}
use Rattle.mb_world.specs.Plan.{Plan, consumers_of}
use Rattle.mb_world.specs.World.{WorldHistory, lane_part, pool_accesses}
use Rattle.mb_world.specs.ConsumerPath.{ConsumerPath}

-- after a history, there is nothing for consumer c on lane p: no cell that c has not met, and no end mark
pub record HasNothing (plan : Plan) (c p : ℕ) (h : WorldHistory) : Type 0 where
  -- the mailbox has the consumer and the lane
  pub consumer : c < consumers_of plan
  pub lane : p < plan.lanes
  -- the path of c has met all cells that are linked there, and c holds no claim
  pub notes : List Note
  pub path : ConsumerPath plan.claims c p (lane_part c p h) (linked_cells p (pool_accesses h)) notes None
  -- the lane has not ended
  pub goes_on : has_ended p (pool_accesses h) ≡ false
