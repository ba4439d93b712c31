-- What callers see of a table, its hub and its seats, and which parts can be seen: those of lawful histories.
use Rattle.std.specs.Prelude.{ℕ, ◌≡◌}
use Rattle.atomic_table.specs.Seated.{TableId}
use Rattle.mb_cells.specs.Vocabulary.{History, IsPoolLawful, part}
use Rattle.mb_cells.specs.declared.access.Process.{Process}
use Rattle.mb_cells.specs.declared.lane.Lane.{Lane}
use Rattle.mb_cells.specs.declared.size.PoolSize.{PoolSize}
use Rattle.mb_shared_cells.specs.Views.{PartList}
use Rattle.mb_shared_cells.specs.declared.views.Roll.{Roll}

-- the name of a table: which it is, and its size
pub record CellsName : Type 0 where
  pub id : TableId
  pub size : PoolSize

-- the hub: of which table it is, and its roll, with the parts that it has taken back
pub record CellHubView : Type 0 where
  pub table : CellsName
  pub roll : Roll

-- a lane's seat: the lane's number, the place of its producer, and the producer's part
pub record LaneSeatView : Type 0 where
  pub table : CellsName
  pub lane : ℕ
  pub place : Lane
  pub part : History

-- a reader's seat: its number, the parts of the lanes that were returned before it was issued, and its own part
pub record ReaderSeatView : Type 0 where
  pub table : CellsName
  pub reader : ℕ
  pub known : PartList
  pub part : History

-- some lawful history has this part of the process
abbrev pub HasHistory : PoolSize → Process → History → Type 0
HasHistory size who done = (h : History) × IsPoolLawful size h × (part who h ≡ done)
