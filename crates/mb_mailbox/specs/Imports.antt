-- The words of the crates below that the definitions and clauses here use, by one name each. Variants that share a
-- name stand in their own modules.
pub use Rattle.rand_core.specs.Stream.{Stream, next_u64}
pub use Rattle.mb_claim.specs.declared.access.{ClaimAccess.ClaimAccess, ObjectTurn.ObjectTurn, Stage.Stage}
pub use Rattle.mb_claim.specs.declared.{claim.Claim.Claim, claim.straight.Stretch.Stretch, layout.Layout.Layout}
pub use Rattle.mb_claim.specs.Vocabulary.{Claims, HasEnd, IsClaimIn, IsClaimPrefix, IsStanding, claim_stage, claims_in, consumer_count, consumer_of}
pub use Rattle.mb_claim.specs.Vocabulary.{is_begun, kinds_of, most_accesses, part as consumer_part, part_on, shape_of}
pub use Rattle.mb_cells.specs.declared.access.{PoolAccess.PoolAccess, PoolAct.{PoolAct, TheVariants.{FetchAdd, Load, Store}}, TheConstants.END}
pub use Rattle.mb_cells.specs.declared.access.{Process.TheVariants.{Producer, Reader}, Word.{Word, TheVariants.{Counter, Head, Item, Link}}}
pub use Rattle.mb_cells.specs.declared.answer.Look.{Look}
pub use Rattle.mb_cells.specs.declared.cursor.Cursor.{Cursor}
pub use Rattle.mb_cells.specs.declared.size.PoolSize.{PoolSize}
pub use Rattle.mb_cells.specs.Vocabulary.{Gave, Has, HasFoundNone, HasLoaded, HasMet, History, IsOnceEach, IsPoolLawful, MayRead, has_ended, linked_cells, load, look_of, part, place_past, word_of}
pub use Rattle.mb_shared_cells.specs.Vocabulary.{CellsName, IsAccessAfter, ItemMakes, ReaderSeatView}
pub use Rattle.mb_shared_claims.specs.Vocabulary.{AreSeatSteps, ClaimTable, IsLawfulPart, SeatView, TableView, access_of, claims_at, name_of, taken_part, with_access}
pub use Rattle.mb_shared_claims.specs.declared.view.TableSize.{TableSize}
pub use Rattle.mb_world.specs.declared.report.Note.{Note, TheVariants.{Took, Lost, Undecided}}
pub use Rattle.mb_world.specs.Plan.{Plan}
pub use Rattle.mb_world.specs.Fitting.{EndsAs, Fits, FollowsLinks, HasRead, HasStageIn, Parts, cells_met}
pub use Rattle.mb_world.specs.PartSteps.{HasNotPassed, IsDoneWith, MayLookPast, with_load, with_step}
pub use Rattle.mb_world.specs.ConsumerPath.{claim_step, item_load, link_load, note_of}
pub use Rattle.mb_world.specs.World.{ToCells, ToClaims, WorldAccess, WorldHistory, claim_accesses, pool_accesses}
