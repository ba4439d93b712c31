-- The names of the types of the code, of the states of worlds, and of what is known of a history.
pub use Rattle.mb_world.specs.declared.event.{Answer.Answer, Event.Event}
pub use Rattle.mb_world.specs.declared.place.Place.{Place, TheVariants.At, TheVariants.Before}
pub use Rattle.mb_world.specs.declared.report.Note.{Note, TheVariants.Took, TheVariants.Lost, TheVariants.Undecided}
pub use Rattle.mb_world.specs.declared.setup.Setup.{Setup}
pub use Rattle.mb_world.specs.WorldState.{IsNoteAfter, IsPlaceAfter, IsPlaceAt, IsWorldAfter, WorldIsSound, WorldState}
pub use Rattle.mb_world.specs.StateReport.{AreDiariesTold, AreLanesTold, IsDiaryTold, IsLaneTold, IsWalk, IsWalked, begun_on, is_taken_on, note_on, note_there}
pub use Rattle.mb_world.specs.EventSteps.{EventAdds, HasPlace, with_note, with_note_if, with_place, with_pool, with_words}
pub use Rattle.mb_world.specs.Waiting.{HasNothing}
pub use Rattle.mb_world.specs.Known.{Known}
pub use Rattle.mb_world.specs.WorldKnown.{WorldKnown}
pub use Rattle.mb_world.specs.EventKnown.{EventKnown}
pub use Rattle.mb_world.specs.StepKnown.{StepKnown}
