-- Proof of `steps::accesses_lengthen_one_part`: what one access adds to a history: one access to one part, and at most
-- one value in one word.
use Rattle.std.proofs.Common.{refl, sym}
use Rattle.mb_cells.proofs.steps.accesses_lengthen_one_part.Goals as goal
use Rattle.mb_cells.specs.{Counter}
use Rattle.mb_cells.proofs.Blocks.{value_in-here}
use Rattle.mb_cells.proofs.Names.{cases_process, cases_word, is_same_process-ne, is_same_process-refl, is_same_word-ne, value_in-other}
use Rattle.mb_cells.proofs.Parts.{part-other, part-own}

pub returns-clause-own : goal.returns-clause-own
returns-clause-own c = λ h a. part-own a.process a h (is_same_process-refl a.process)

pub returns-clause-others : goal.returns-clause-others
returns-clause-others c = λ h a who ne. part-other who a h (is_same_process-ne who a.process (λ e. ne (sym e)))

pub returns-clause-word : goal.returns-clause-word
returns-clause-word c = λ h a. value_in-here a h

pub returns-clause-words : goal.returns-clause-words
returns-clause-words c = λ h a w ne. value_in-other a h w (is_same_word-ne a.word w ne)

pub returns-clause-added : goal.returns-clause-added
returns-clause-added c = λ h p e. refl

pub returns-clause-counter : goal.returns-clause-counter
returns-clause-counter c = λ h a ne. let other = is_same_word-ne a.word Counter ne in rw other refl

pub returns-clause-processes : goal.returns-clause-processes
returns-clause-processes c = cases_process

pub returns-clause-names : goal.returns-clause-names
returns-clause-names c = cases_word
