-- The access that `SharedCells::offer` picks for the step that it calls: one fetch-add of the counter, for item `x`.
use Rattle.mb_cells.specs.declared.access.PoolAct.TheVariants.{FetchAdd}
use Rattle.mb_cells.specs.declared.access.Word.TheVariants.{Counter}
use Rattle.mb_shared_cells.proofs.table.SharedCells.offer.Given as goal

-- the access of the fetch-add: the counter, and for each number that it may find the act with it and the item offered
abbrev pub ghosts-fetch_add : goal.ghosts-fetch_add
ghosts-fetch_add g a = record { word = Counter; act = λ n. FetchAdd a.item n }
