-- The definitions that the crates above use in clauses and proofs. These crates take types from `specs.declared`, since
-- another crate cannot name a type that a module here passes on.
pub use Rattle.mb_deciding.specs.History.{is_same_reg, reg_of_act, loaded_by, stored_by, value_after, value_in, ReadsLast, IsMemoryTrue, IsSameOp, IsActInWords}
pub use Rattle.mb_deciding.specs.History.{IsInWords, AreInWords, turn_by, part, acts, Has}
pub use Rattle.mb_deciding.specs.ConciliatorPaths.{StoresOn, IsMissing, IsDrawn, IsPut, IsConciliatorPath}
pub use Rattle.mb_deciding.specs.RatifierPaths.{acts_below, stores_below, zeros_below, announcement, Prefers, ReadsClear, ReadsOne, IsRatifierPath}
pub use Rattle.mb_deciding.specs.LastPaths.{IsLastPath}
pub use Rattle.mb_deciding.specs.OneObject.{Object, object_of, ratifier_of, conciliator_of, ObjectIsSound, ObjectSetup, setup_of, object_in}
pub use Rattle.mb_deciding.specs.Objects.{answer, IsPath, IsPrefix, IsOpen, IsObjectLawful, HasOutput, IsAnnounced, CanHold, largest_quorum, most_turns}
pub use Rattle.mb_deciding.specs.Deciding.{IsValid, IsCoherent, IsAccepted, IsContested, ChecksKeepOut, stores_in, IsFirstMover, IsDeciding, IsRatifying}
pub use Rattle.mb_deciding.specs.Place.{IsLeast, IsRest, IsRatifierPlace, HasLimits, IsConciliatorPlace, IsPlace, IsInRatifier, IsInConciliator, PcIsAt}
pub use Rattle.mb_deciding.specs.Place.{IsRatifierOp, IsConciliatorOp, IsLastOp, IsOpAt, act_of, reg_of, HasReg, CanFind, IsReached, IsNext, seen_by}
pub use Rattle.mb_deciding.specs.Place.{turn_after}
pub use Rattle.mb_deciding.specs.OneStep.{next_from, IsStep}
pub use Rattle.mb_deciding.specs.FirstPlaces.{first_place}
pub use Rattle.mb_deciding.specs.Bounds.{turns_left, turns_after}
pub use Rattle.mb_deciding.specs.Trace.{process_of, with_entry, history_from, history_of, plain_schedule, HasEnded, IsOutputOf, IsEntryAfter, AreEntriesOf}
pub use Rattle.mb_deciding.specs.Trace.{IsTrace}
pub use Rattle.mb_deciding.specs.Spread.{spread}
pub use Rattle.mb_deciding.specs.Refusals.{first_from, refusal_in, refusal_of, RefusesOnlyFor}
