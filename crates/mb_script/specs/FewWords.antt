-- The words of one line, in a fixed array.
use Rattle.std.specs.Prelude.{ℕ, List, map, take}
use Rattle.mb_script.specs.declared.few_words.LineWords.{LineWords}

-- the words that the array holds, in their order
abbrev pub words_in : LineWords → List (List ℕ)
words_in words = map (λ w. w.now) (take words.count words.words)
