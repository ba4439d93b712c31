-- Lawful histories of a pool.
use Rattle.std.specs.Prelude.{[], ℕ, ◌<◌, ◌^◌, ◌∷◌}
use Rattle.mb_cells.specs.Types.{END, FetchAdd, Load, PoolAct, Process, Producer, Reader, Store}
use Rattle.mb_cells.specs.Size.{PoolSize}
use Rattle.mb_cells.specs.Memory.{History, IsMemoryTrue, part}
use Rattle.mb_cells.specs.LanePath.{IsLanePrefix}
use Rattle.mb_cells.specs.ReaderPath.{IsReaderPath}

-- what an act loads or stores, and a fetch-add's item and the number that it found, are words of 64 bits
abbrev pub ActFits : PoolAct → Type 0
ActFits (Load v) = v < 2 ^ 64
ActFits (Store v) = v < 2 ^ 64
ActFits (FetchAdd x n) = (x < 2 ^ 64) × (n < 2 ^ 64)

-- a producer's number is one of a lane of the pool. A reader may have any number
abbrev pub ProcessFits : ℕ → Process → Type 0
ProcessFits lanes (Producer p) = p < lanes
ProcessFits lanes (Reader r) = Unit {0}

-- each access has values of 64 bits, and if a producer made it, that producer has a lane of the pool
abbrev pub AllFit : ℕ → History → Type 0
AllFit lanes [] = Unit {0}
AllFit lanes (a ∷ older) = ActFits a.act × ProcessFits lanes a.process × AllFit lanes older

-- a lawful history of a pool of this size
pub record IsPoolLawful (size : PoolSize) (h : History) : Type 0 where
  -- the link to a cell, its number + 1, is never the end mark
  pub sized : size.cells < END
  pub fits : AllFit size.lanes h
  pub memory : IsMemoryTrue h
  -- each producer's part is a prefix of a lane path
  pub producers : (p : ℕ) → IsLanePrefix size.cells p (part (Producer p) h)
  -- each reader's part is a reader path
  pub readers : (r : ℕ) → IsReaderPath size.lanes (part (Reader r) h)
