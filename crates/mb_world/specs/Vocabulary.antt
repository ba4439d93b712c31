-- The names of this crate's definitions, in one place, for proofs and clauses that would need many imports. Crates
-- above can import the names of this file, but not those of `States`.
pub use Rattle.mb_world.specs.Imports.{ClaimAccess, Claims, Counter, END, Gave, Has, HasFoundNone, HasPending, History, IsClaimPrefix, IsLinkWord, IsOnceEach, IsPoolLawful, IsQuorumTable}
pub use Rattle.mb_world.specs.Imports.{IsStart, Item, Load, MayRead, ObjectTurn, PoolAccess, Process, Producer, Reader, Stage, Store, Word, claim_part, has_cell, has_ended, is_of_lane}
pub use Rattle.mb_world.specs.Imports.{is_same_process, linked_cells, load, part, place_past, pool_size}
pub use Rattle.mb_world.specs.Plan.{HasLastObject, HasMetEnd, Histories, Plan, consumers_of, size_of}
pub use Rattle.mb_world.specs.Setups.{layout_of, plan_in, shape_in, shaped_plan}
pub use Rattle.mb_world.specs.Theorem.{Assignment, DiaryView, HasCompeted, IsSettled, LaneView, MainTheorem, NothingFollowsEnds, ReportView, diary, is_begun, items_left, items_put, items_where, note}
pub use Rattle.mb_world.specs.Theorem.{notes}
pub use Rattle.mb_world.specs.Agreement.{AgreesWith, AreAllTaken, IsLeftBesideBegun}
pub use Rattle.mb_world.specs.Fitting.{EndsAs, Fits, HasRead, cells_met, parts_of}
pub use Rattle.mb_world.specs.Sound.{AreSound}
pub use Rattle.mb_world.specs.Reporting.{HasMetAll, IsDiaryOf, IsReportOf, is_taken, is_took, lane_view}
pub use Rattle.mb_world.specs.World.{IsBy, ToCells, WorldAccess, WorldHistory, claim_accesses, histories_of, is_on, lane_part, pool_accesses}
pub use Rattle.mb_world.specs.ConsumerPath.{ConsumerPath, begins, claim_step, diary_at, ends, finds, goes, has_begun, item_load, link_load, note_of, takes, waits}
pub use Rattle.mb_world.specs.Worlds.{ConsumerAdds, IsOnPath, IsTrueTo, IsWorldLawful, ProducerAdds}
pub use Rattle.mb_world.specs.Places.{AreAtHeads, has_begun_at, place_after}
pub use Rattle.mb_world.specs.Replay.{AnswerNames, HasAnswer, IsAccessOf, IsLaneOf, IsPushed, IsRefused, IsRefusedOrMade, IsReplay, answer_to, answer_to_link, with_access}
pub use States.*
pub mod States
