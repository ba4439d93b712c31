-- Proof of `numbers`, which returns the numbers that these words spell, or `None` if some word spells none.
use Rattle.std.proofs.Common.{◌∙◌, sym}
use Rattle.mb_script.proofs.Cuts.{number_fails, number_works, numbers_end}
use Rattle.mb_script.proofs.text.numbers.Goals as goal

pub returns-in_default-number : goal.returns-in_default-number
returns-in_default-number g c =
    let read = rw (c.in-Some.is, c.split_word.ensures.words) at c.loop-rest.invariant in
    number_fails c.loop-rest.numbers.items _ _ _ (sym c.number.ensures ∙ c.in_default-number.is) read

pub loop-rest-preserved : goal.loop-rest-preserved
loop-rest-preserved g c =
    let read = rw (c.in-Some.is, c.split_word.ensures.words) at c.loop-rest.invariant in
    rw c.in_ok-push.ensures.items
    (number_works c.loop-rest.numbers.items _ _ c.in-Some-number.n _ (sym c.number.ensures ∙ c.in-Some-number.is) read)

pub returns : goal.returns
returns g c = numbers_end c.loop-rest.numbers.items _ (rw c.in_default.is at c.loop-rest.invariant)
