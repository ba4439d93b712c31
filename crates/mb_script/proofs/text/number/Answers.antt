-- Proof of `number`, which returns the number that a word spells, if it spells one: `0`, or digits that do not begin
-- with 0, up to 2^64 - 1.
use Rattle.std.proofs.Common.{arith, ◌<◌, ℕ, List, length, get_or, ap, ◌∙◌}
use Rattle.mb_script.proofs.Numerals.{number_led}
use Rattle.mb_script.proofs.text.number.Goals as goal

pub returns-in-Some-49-to-57 : goal.returns-in-Some-49-to-57
returns-in-Some-49-to-57 c =
    let bs = c.args.word.now in
    let first = c.in-Some-49-to-57.ensures.item in
    let same = c.as_bytes.ensures.value in
    let some : 0 < length bs = omega (arith, ap (λ (xs : List ℕ). length xs) same, first.3.0) in
    let led : 48 < get_or bs 0 0 = omega (arith, ap (λ (xs : List ℕ). get_or xs 0 0) same, first.3.1 0) in
    c.ok.ensures.value ∙ number_led bs c.parse.result c.parse.ensures.value.0 some led
