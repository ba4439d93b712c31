-- The definitions that the crates above use in clauses and proofs.
pub use Rattle.mb_claim.specs.AllClaims.{claims_of, ClaimsAreSound, Claims}
pub use Rattle.mb_claim.specs.History.{step_by, part_on, access_by, part, access_on, object_history, part_at, held_at}
pub use Rattle.mb_claim.specs.History.{IsMemoryTrue, AreInWords, on_cell}
pub use Rattle.mb_claim.specs.Paths.{turns_on, stage_for, stage_of, IsClaimPath, IsClaimPrefixFrom, Enters}
pub use Rattle.mb_claim.specs.Paths.{IsWholeClaim, IsClaimPrefix, GoesOnIn, DecidesIn, Passes}
pub use Rattle.mb_claim.specs.Claiming.{IsClaimPart, HasStage, held_after, IsClaimLawful, MayFollow, Adds}
pub use Rattle.mb_claim.specs.Winner.{StageNames, IsUsedWith, IsClaimAnnounced, IsClaimContested, HasOneWinner}
pub use Rattle.mb_claim.specs.Standing.{PassesAll, HasPlace, access_after, StandsAt, IsClaimOf}
pub use Rattle.mb_claim.specs.Layouts.{pairs_of, fast_row, last_row, row_of, plain, with_last, shape_of, fast_steps, last_steps, shaped_steps}
pub use Rattle.mb_claim.specs.Layouts.{quorums_of, pair_count, kinds_of, width, offset, words_before, row_words, shaped_words, address_of}
pub use Rattle.mb_claim.specs.Layouts.{IsWordOf, words_in, IsWordIn, address_in, most_on_objects, max_steps, claims_in, consumer_count}
pub use Rattle.mb_claim.specs.Layouts.{cell_words, IsWordInLayout, word_address, most_accesses}
pub use Rattle.mb_claim.specs.States.{after_op, step_of, found_in, access_in, words_after, IsMemoryOf}
pub use Rattle.mb_claim.specs.OneClaim.{consumer_of, claim_stage, is_begun, FitsLayout, CanClaimFind, IsClaimIn, steps_left_at, steps_left}
pub use Rattle.mb_claim.specs.OneClaim.{claim_access, IsOnObject, IsNextOp, IsClaimOn, IsClaimStep}
pub use Rattle.mb_claim.specs.ManyClaimSteps.{DrawsAndMakesNext, AreClaimSteps}
pub use Rattle.mb_claim.specs.Straight.{is_past, standing, IsStanding, site_of, HasEnd, HasStopped}
pub use Rattle.mb_claim.specs.Refusals.{layout_refusal, stranger_in}
pub use Rattle.mb_claim.specs.Plays.{entry_consumer, with_entry, history_from, history_of, IsEntryAfter, AreEntriesOf, IsPlayed}
