-- The names of this crate's definitions that proofs and clauses with long heads use, from one place.
pub use Rattle.mb_program.specs.declared.fault.RatifyFault.{RatifyFault}
pub use Rattle.mb_program.specs.declared.options.Options.{Options}
pub use Rattle.mb_program.specs.declared.options.TheConstants.{MAX_BUDGET}
pub use Rattle.mb_program.specs.Answer.{IsAnswer, ratifying}
pub use Rattle.mb_program.specs.CommandLine.{command_in, program}
pub use Rattle.mb_program.specs.RunOptions.{HasBudget, HasToldOptions}
pub use Rattle.mb_program.specs.Running.{AreFew, AreOwnReaders, HasNotedAll, IsLaneOf, IsRun, IsRunReport, accesses_by, fault_after, item_lists, items_of, plan_asked, setup_refused, terms_asked}
pub use Rattle.mb_program.specs.Source.{seed_bytes, source_from, words_from}
pub use Rattle.mb_program.specs.RatifyScript.{Script, head_of, line_words, list_of, script_of, three_lines, view}
pub use Rattle.mb_program.specs.Spelling.{HasSpelling, script_lines, script_words}
pub use Rattle.mb_program.specs.Steps.{Gives}
