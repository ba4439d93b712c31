-- The types of the crate and their variants, each under one name. Variants of `Offer`, `Push`, `Finish`, `Look`,
-- `Cursor` and `LaneStage` share names, so they are in modules of their own.
pub use Rattle.mb_cells.specs.declared.access.PoolAccess.{PoolAccess}
pub use Rattle.mb_cells.specs.declared.access.PoolAct.{PoolAct}
pub use Rattle.mb_cells.specs.declared.access.PoolAct.TheVariants.{FetchAdd, Load, Store}
pub use Rattle.mb_cells.specs.declared.access.Process.{Process}
pub use Rattle.mb_cells.specs.declared.access.Process.TheVariants.{Producer, Reader}
pub use Rattle.mb_cells.specs.declared.access.TheConstants.{END}
pub use Rattle.mb_cells.specs.declared.access.Word.{Word}
pub use Rattle.mb_cells.specs.declared.access.Word.TheVariants.{Counter, Head, Item, Link}
pub use Rattle.mb_cells.specs.declared.answer.Finish.{Finish}
pub use Rattle.mb_cells.specs.declared.answer.Look.{Look}
pub use Rattle.mb_cells.specs.declared.answer.Offer.{Offer}
pub use Rattle.mb_cells.specs.declared.answer.Push.{Push}
pub use Rattle.mb_cells.specs.declared.cursor.Cursor.{Cursor}
pub use Rattle.mb_cells.specs.declared.lane.Lane.{Lane}
pub use Rattle.mb_cells.specs.declared.lane.LaneStage.{LaneStage}
