-- Loop invariants of `numbers`, which returns the numbers that these words spell, or `None` if some word spells none.
use Rattle.std.proofs.Common.{◌≡◌, List, ℕ, ◌++◌, option_map}
use Rattle.mb_script.specs.Text.{numbers_of, words_behind}
use Rattle.mb_script.proofs.Cuts.{bytes_left}
use Rattle.mb_script.proofs.text.numbers.Given as goal

-- the numbers read so far, and then those of the words that are left, are the numbers of all words
abbrev pub invariant-loop-rest : goal.invariant-loop-rest
invariant-loop-rest g l =
    option_map (λ (ns : List ℕ). l.numbers.items ++ ns) (numbers_of (words_behind (option_map (λ w. w.now) l.rest)))
    ≡ numbers_of (words_behind (option_map (λ w. w.now) l.fn.words))

-- each pass of the loop leaves less of the words
abbrev pub decreases-loop-rest : goal.decreases-loop-rest
decreases-loop-rest g l = bytes_left (option_map (λ w. w.now) l.rest)
