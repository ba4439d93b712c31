-- Proof of `laws::words_are_cut_as_spelled`: if one word or more are joined, with one space between two, the line is
-- cut into the same words.
use Rattle.std.proofs.lemmas.List.Splits.{join_with_byte-slice_split}
use Rattle.mb_script.proofs.Spelled.{none_empty, words_join}
use Rattle.mb_script.proofs.laws.words_are_cut_as_spelled.Goals as goal

pub returns-clause-cut : goal.returns-clause-cut
returns-clause-cut c = words_join

pub returns-clause-none_empty : goal.returns-clause-none_empty
returns-clause-none_empty c = none_empty

pub returns-clause-spelled : goal.returns-clause-spelled
returns-clause-spelled c = join_with_byte-slice_split 32
