-- The types of this crate and of the pool, and their variants, under the names that laws use.
pub use Rattle.mb_cells.specs.declared.access.PoolAccess.{PoolAccess}
pub use Rattle.mb_cells.specs.declared.access.Process.{Process}
pub use Rattle.mb_cells.specs.declared.access.Process.TheVariants.{Producer, Reader}
pub use Rattle.mb_cells.specs.declared.access.TheConstants.{END}
pub use Rattle.mb_cells.specs.declared.access.Word.{Word}
pub use Rattle.mb_cells.specs.declared.access.Word.TheVariants.{Counter, Item}
pub use Rattle.mb_cells.specs.declared.answer.Push.{Push}
pub use Rattle.mb_cells.specs.declared.cursor.Cursor.{Cursor}
pub use Rattle.mb_cells.specs.declared.size.PoolSize.{PoolSize}
pub use Rattle.mb_shared_cells.specs.declared.views.Roll.{Roll}
pub use Rattle.mb_shared_cells.specs.declared.views.View.{View}
pub use Rattle.mb_shared_cells.specs.declared.views.View.TheVariants.{Empty, Hub, HubDraws, HubJoins, Member}
