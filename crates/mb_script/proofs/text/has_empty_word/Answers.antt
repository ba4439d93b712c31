-- Proof of `has_empty_word`, which returns whether some word of the line is empty.
use Rattle.std.proofs.Common.{rules, tests, lit<, length, nat_eq}
use Rattle.std.proofs.lemmas.Iterator.Search.{any_from_yields_List}
use Rattle.std.proofs.lemmas.Iterator.Splits.{YieldsList-from_str_split}
use Rattle.mb_script.proofs.text.has_empty_word.Goals as goal

pub returns : goal.returns
returns c =
    let split = c.split.ensures in
    any_from_yields_List (λ w. nat_eq (length w) 0) _ _ _ c.any.ensures.ran
    (YieldsList-from_str_split 32 c.args.line.now (lit< tt) split.text split.has_more split.pattern)
    (λ x b q k. search (rules, tests))
