-- Proof of `read_script`, which returns the script that the bytes spell, or their first fault.
use Rattle.std.proofs.Common.{subst}
use Rattle.mb_program.specs.Steps.{Gives}
use Rattle.mb_program.specs.RatifyScript.{view}
use Rattle.mb_program.proofs.ScriptSpelling.{TextLaws, is_found, script_again}
use Rattle.mb_program.proofs.input.read_script.Goals as goal

pub returns : goal.returns
returns g c =
    let words = c.words_are_cut_as_spelled.ensures in
    let numbers = c.numbers_are_read_as_spelled.ensures in
    let law : TextLaws = record {
      cut = words.cut;
      none_empty = words.none_empty;
      word = numbers.word;
      words = numbers.words;
      read = numbers.read;
      all_read = numbers.all_read;
      spelled = numbers.spelled;
      all_spelled = numbers.all_spelled;
      ascii = c.lines_of_words_are_ascii.ensures;
    } in
    let exact = c.read_bytes.ensures.exact in
    record {
      found = is_found law c.args.bytes.now c.read_bytes.result exact;
      only = λ s spelled short lines. subst (λ r. Gives (λ s. view s) c.read_bytes.result r)
          (script_again law c.args.bytes.now s spelled short lines) exact;
      exact = exact;
    }
