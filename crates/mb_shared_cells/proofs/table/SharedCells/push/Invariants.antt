-- The access that `SharedCells::push` picks for the step that it calls: it stores the item offered, or the cell's link.
use Rattle.mb_cells.specs.declared.access.PoolAct.TheVariants.{Store}
use Rattle.mb_shared_cells.proofs.table.SharedCells.push.Given as goal

-- the access of the store: its word, and the act for each value that it may store
abbrev pub ghosts-store : goal.ghosts-store
ghosts-store g a = record { word = a.word; act = λ n. Store n }
