-- Two of the reasons why a lane refuses a call: what its producer has done in the history. A third is the end mark.
use Rattle.std.specs.Prelude.{ℕ, ◌<◌, ◌≤◌}
use Rattle.mb_cells.specs.Memory.{Has, History}
use Rattle.mb_cells.specs.LanePath.{Entry, fetch}
use Rattle.mb_cells.specs.Lanes.{linked_cells}

-- an item that producer p offered got one of `cells` cells, and that cell is not linked yet
pub record HasPending (cells p : ℕ) (h : History) : Type 0 where
  pub entry : Entry
  pub offered : Has h (fetch p entry)
  pub got : entry.cell < cells
  pub unlinked : Has (linked_cells p h) entry.cell → ⊥

-- a fetch-add of producer p found none of `cells` cells
pub record HasFoundNone (cells p : ℕ) (h : History) : Type 0 where
  pub entry : Entry
  pub offered : Has h (fetch p entry)
  pub past : cells ≤ entry.cell
