-- The names of the crates below that definitions and clauses here use, one for each thing. Variants of `Stage`, `Look`,
-- `Offer`, `Push` and `Finish` share names, so they stay in modules of their own.
pub use Rattle.mb_quorum.specs.Quorum.{IsQuorumTable, QuorumTable}
pub use Rattle.mb_deciding.specs.declared.object.Kind.{Kind}
pub use Rattle.mb_claim.specs.declared.access.{ClaimAccess.ClaimAccess, ObjectTurn.ObjectTurn, Stage.Stage}
pub use Rattle.mb_claim.specs.AllClaims.{Claims}
pub use Rattle.mb_claim.specs.Claiming.{IsClaimLawful}
pub use Rattle.mb_claim.specs.History.{part_on as claim_part}
pub use Rattle.mb_claim.specs.Paths.{IsClaimPrefix}
pub use Rattle.mb_cells.specs.declared.access.{PoolAccess.PoolAccess, PoolAct.PoolAct, Process.Process, TheConstants.END, Word.Word}
pub use Rattle.mb_cells.specs.declared.access.PoolAct.TheVariants.{FetchAdd, Load, Store}
pub use Rattle.mb_cells.specs.declared.access.Process.TheVariants.{Producer, Reader}
pub use Rattle.mb_cells.specs.declared.access.Word.TheVariants.{Counter, Head, Item, Link}
pub use Rattle.mb_cells.specs.declared.size.PoolSize.{PoolSize}
pub use Rattle.mb_cells.specs.Size.{pool_size}
pub use Rattle.mb_cells.specs.Memory.{Has, History, is_same_process, is_same_word, part}
pub use Rattle.mb_cells.specs.LanePath.{Entry, IsLanePrefix}
pub use Rattle.mb_cells.specs.Lanes.{IsOnceEach, entry_of, has_ended, item_of, link_of, linked_cells, push_if, put_list}
pub use Rattle.mb_cells.specs.Refusals.{HasFoundNone, HasPending}
pub use Rattle.mb_cells.specs.Met.{HasLoaded, HasMet, IsLinkWord, IsStart, has_cell, is_of_lane, load, place_past}
pub use Rattle.mb_cells.specs.ReaderPath.{Gave, IsGift, IsReaderPath, MayRead}
pub use Rattle.mb_cells.specs.Lawful.{ActFits, AllFit, IsPoolLawful}
