-- What the loop of `World::lane_cells` keeps of the cells met and the cursor, and what gets smaller in each pass.
use Rattle.std.proofs.Common.{◌<◌, ◌-◌, All, length}
use Rattle.mb_cells.specs.State.{IsWithin}
use Rattle.mb_world.specs.Setups.{plan_in}
use Rattle.mb_world.proofs.LaneWalks.{WalksOn}
use Rattle.mb_world.proofs.world.World.lane_cells.Given as goal

-- the cells met so far and the cursor are the pool's, and looks from the cursor on find the rest of the lane
abbrev pub invariant-links : goal.invariant-links
invariant-links g l = record {
  within : All (λ k. k < (plan_in l.self.setup).claims.cells) l.cells.items;
  cursor : IsWithin l.cursor l.self.pool;
  walks : WalksOn l.self.pool l.p l.cells.items l.cursor;
}

-- what gets smaller in each pass of the loop: the number of cells of the pool that were not met yet
abbrev pub decreases-links : goal.decreases-links
decreases-links g l = (plan_in l.self.setup).claims.cells - length l.cells.items
