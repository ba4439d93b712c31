-- The access that `SharedCells::link` picks for the step that it calls: it loads the head or link at the cursor.
use Rattle.mb_cells.specs.declared.access.PoolAct.TheVariants.{Load}
use Rattle.mb_shared_cells.proofs.table.SharedCells.link.Given as goal

-- the access of the load: its word, and for each value that it may find the act with this value
abbrev pub ghosts-load : goal.ghosts-load
ghosts-load g a = record { word = a.word; act = λ n. Load n }
