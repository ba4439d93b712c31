-- Loop invariants of `LineWords::of_line`, which returns the words of a line, or `None` if some word is empty or there
-- are more than `MAX_WORDS`.
use Rattle.std.proofs.Common.{◌≡◌, ◌++◌, ◌<◌, map, take, length, false}
use denote.Text.{Utf8}
use denote.Shadow.{shadow}
use Rattle.mb_script.specs.Text.{words_in_line, has_empty}
use Rattle.mb_script.proofs.few_words.LineWords.of_line.Given as goal

-- the words stored so far, fewer than 8 and none empty, and then those of the rest of the line, are the line's words
abbrev pub invariant-loop-word : goal.invariant-loop-word
invariant-loop-word l = record {
  text : shadow (Utf8 l.rest);
  room : length l.words ≡ 8;
  few : l.count < 8;
  cut : map (λ w. w.now) (take l.count l.words) ++ words_in_line l.rest ≡ words_in_line l.fn.line;
  full : has_empty (map (λ w. w.now) (take l.count l.words)) ≡ false;
}

-- each pass of the loop leaves less of the line
abbrev pub decreases-loop-word : goal.decreases-loop-word
decreases-loop-word l = length l.rest
