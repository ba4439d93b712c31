-- The words of consumers from several files, for files that use many of them: what a consumer is, its steps and polls.
pub use Rattle.mb_mailbox.specs.declared.consumer.Poll.{Poll}
pub use Rattle.mb_mailbox.specs.Consumers.{AreEnds, ConsumerIsAt, ConsumerIsBefore, ConsumerView, IsConsumer, IsConsumerOf, StandsOn, parts_of}
pub use Rattle.mb_mailbox.specs.ConsumerStep.{ConsumerStep, link_answer, stage_answer}
pub use Rattle.mb_mailbox.specs.Steps.{AnswerTells, AreSteps, HasLoadedEnd, HasNoteOnEach, HasReadWhole, IsPollOf, LeadTo, notes_on}
pub use Rattle.mb_mailbox.specs.Laws.{Laws}
pub use Rattle.mb_mailbox.specs.LaneNotes.{AreMarked, all_told, by_lane, noted}
pub use Rattle.mb_mailbox.specs.NoteLists.{HasAllRoom, HasRoom, NotesGrow}
pub use Rattle.mb_mailbox.specs.Pursuits.{IsBeforeObject, IsHolding, IsPursuit, at_link, claim_takes, holding, with_fields}
pub use Rattle.mb_mailbox.specs.Moves.{HasLoads, HasPlace, HasTurns, moved_to, reads_with_item, reads_with_link}
