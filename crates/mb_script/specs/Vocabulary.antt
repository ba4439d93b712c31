-- The names that clauses use, here and in the crates above.
pub use Rattle.mb_script.specs.Devices.{AppendsFront, ConsumesCount, ConsumesUpTo, CountGrows, CountGrowsUpTo, Had, one_more}
pub use Rattle.mb_script.specs.CommandIo.{AreApart, Command, IsCommandIo, LiesIn, IoModel, meter}
pub use Rattle.mb_script.specs.Text.{IsWord, IsWordLine, has_empty, is_numeral, lines_of, words_behind, words_in_line}
unfoldable pub use Rattle.mb_script.specs.Text.{number_of, numbers_of}
pub use Rattle.mb_script.specs.ActText.{act_text, reg_text}
pub use Rattle.mb_script.specs.Transcript.{answer_text, entry_text, event_text, transcript_text}
pub use Rattle.mb_script.specs.ReportText.{diary_text, lanes_text, note_text, report_text}
pub use Rattle.mb_script.specs.Steps.{◌>>=◌, GivesUnless}
pub use Rattle.mb_script.specs.Tables.{table_name, table_named}
pub use Rattle.mb_script.specs.Shapes.{shape_named, shape_of_word, shape_with, shape_words, words_with}
pub use Rattle.mb_script.specs.Faults.{Gives, fault_at}
pub use Rattle.mb_script.specs.Scripts.{SetupLine, Script, consumer_in, has_consumer, lane_of, made_from, made_of, number_at, script_with, view}
unfoldable pub use Rattle.mb_script.specs.Scripts.{
  event_at,
  event_of,
  events_of,
  lines_script,
  one_number,
  placed,
  script_of,
  setup_of,
  sizes_of,
  three_numbers,
  two_numbers,
}
pub use Rattle.mb_script.specs.Spelling.{IsEventOf, IsScript, Sizes, Spells, event_words, made_for, script_in, script_lines, setup_words}
pub use Rattle.mb_script.specs.FirstFault.{first_word_in, line_of}
pub use Rattle.mb_script.specs.ReplayText.{IsReplayText}
pub use Rattle.mb_script.specs.Replaying.{IsAnswer, IsOfWorld, fault_of, replaying}
pub use Rattle.mb_script.specs.declared.fault.Fault.{Fault}
pub use Rattle.mb_script.specs.declared.script.TheConstants.{MAX_EVENTS}
pub use Rattle.mb_script.specs.declared.transfer.TheConstants.{MAX_SCRIPT_LEN}
