-- Proof of `laws::lines_of_words_are_ascii`: a text whose lines are joined words, as `IsWordLine` says, is ASCII.
use Rattle.std.proofs.Common.{◌≡◌, sym, subst, true}
use Rattle.std.specs.Char.{is_ascii}
use Rattle.std.specs.List.{AllByRecursion, list_all}
use Rattle.mb_script.proofs.Spelled.{ascii_lines, words_ascii}
use Rattle.mb_script.proofs.laws.lines_of_words_are_ascii.Goals as goal

pub returns : goal.returns
returns c bytes lines are spelled =
    ascii_lines bytes (subst (AllByRecursion (λ l. list_all is_ascii l ≡ true)) (sym spelled) (words_ascii lines are))
