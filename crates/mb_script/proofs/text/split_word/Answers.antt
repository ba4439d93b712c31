-- Proof of `split_word`, which returns the first word of a line, perhaps an empty one, and the words after it, if any.
use Rattle.std.proofs.Common.{◌≡◌, ◌+◌, ℕ, List, ◌∷◌, lit<, arith, length, length-drop, ap, ◌∙◌}
use Rattle.std.specs.List.{position_or_len}
use Rattle.mb_script.specs.Text.{words_in_line}
use Rattle.mb_script.proofs.Cuts.{is_space, some_word, words_cut, words_last}
use Rattle.mb_script.proofs.text.split_word.Goals as goal

pub returns-in-Some : goal.returns-in-Some
returns-in-Some c =
    let line = c.args.line.now in
    let h = c.in-Some.ensures.byte (lit< tt) (λ w o f. f) in
    let cut : words_in_line line ≡ c.in-Some.word.now
    ∷ words_in_line c.in-Some.rest.now = rw (h.0, h.1) (words_cut line h.2) in
    let long = ap (λ (l : List ℕ). length l) h.1 ∙ length-drop (position_or_len is_space line + 1) line in
    record { words = cut; some = some_word c.in-Some.rest.now; shorter = omega (arith, long, h.2) }

pub returns-in-None : goal.returns-in-None
returns-in-None c = record {
  words = words_last c.args.line.now
      (c.in-None.ensures.byte (lit< tt) (λ w o f. f));
  some = tt;
  shorter = tt;
}
