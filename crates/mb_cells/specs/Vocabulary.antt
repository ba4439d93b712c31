-- The names that clauses use, here and in the crates above. The phases of `Place` are in that module alone.
pub use Rattle.mb_cells.specs.Types.{Counter, Cursor, END, FetchAdd, Finish, Head, Item, Lane, LaneStage, Link, Load, Look, Offer, PoolAccess, PoolAct, Process, Producer, Push, Reader, Store, Word}
pub use Rattle.mb_cells.specs.Memory.{Has, History, IsMemoryTrue, ReadsLast, fetch_adds_on, is_fetch_add, is_same_process, is_same_word, loaded_by, part, stored_by, value_in}
pub use Rattle.mb_cells.specs.LanePath.{AllCellsBelow, Entry, FindsNoCell, IsLanePath, IsLanePrefix, ending, fetch, groups, place_after, refusal, store}
pub use Rattle.mb_cells.specs.ReaderPath.{Gave, IsGift, IsLoad, IsReaderPath, MayRead}
pub use Rattle.mb_cells.specs.Lawful.{ActFits, AllFit, IsPoolLawful, ProcessFits}
pub use Rattle.mb_cells.specs.Lanes.{AllLinked, IsOnceEach, WasIssued, entry_at, entry_of, has_ended, item_after, item_of, items_put, lane_end, link_of, linked_cells, marks_end, push_if, put_list}
pub use Rattle.mb_cells.specs.Met.{HasLoaded, HasMet, IsLinkWord, IsStart, has_cell, is_of_lane, load, part_on, place_past}
pub use Rattle.mb_cells.specs.Place.{LaneIsAt, Phase, PhaseFits, Steps, part_at, takes_cell, finds_none, fills_cell, links_cell, ends_lane, ends_refused}
pub use Rattle.mb_cells.specs.Reading.{Reads, look_after, look_of, word_of}
pub use Rattle.mb_cells.specs.Standing.{IsLaneAfter, IsPoolWord, IsLaneWord, finish_answer, finish_refusal, history_after_finish, history_after_offer, history_after_push, is_full, lane_after_finish}
pub use Rattle.mb_cells.specs.Standing.{lane_after_offer, lane_after_push, last_after_push, last_of, link_after, new_lane, next_link, offer_answer, offer_by_found, offer_refusal, push_answer}
pub use Rattle.mb_cells.specs.Standing.{push_store, stage_after_push, stage_finish_refusal, stage_of, stage_offer_refusal, stage_push_answer, stage_push_store}
pub use Rattle.mb_cells.specs.{Size.PoolSize, Size.pool_size, Refusals.HasFoundNone, Refusals.HasPending}
pub use Rattle.mb_cells.specs.State.{HasWord, HoldsWords, IsAfter, IsShownAlike, PoolIsSound, IsWithin, PoolState, PoolWords, SameSize, cell_count, item_in}
pub use Rattle.mb_cells.specs.State.{lane_count, look_in, size_of, word_in, words_with}
pub use Rattle.mb_cells.specs.Block.{IsMemoryOf, IsStateOf, address_of, block_after, parts_after, pool_words}
pub use Rattle.mb_cells.specs.Calls.{FinishKeeps, FinishMeets, LoadGoesOn, OfferKeeps, OfferMeets, PushMeets}
pub use Rattle.mb_cells.specs.CallLists.{Call, HasMade, IsAnswerBy, Leads, WasGivenBy, fetch_adds_by, fetch_adds_by_offer, has_ended_by, is_end, item_by, item_by_offer, lane_end_by, link_by_push}
pub use Rattle.mb_cells.specs.CallLists.{linked_cells_by, put_list_by, stage_by, stage_by_finish, stage_by_offer, stage_by_push, Offered, Pushed, Finished}
pub use Rattle.mb_cells.specs.Samples.{eight, one_put, one_read, one_taken}
