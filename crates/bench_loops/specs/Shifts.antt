-- Random words by shifts. The state is the last word.
use Rattle.std.specs.Prelude.{ℕ, ◌*◌, ◌/◌, ◌%◌, ◌^◌, bit_xor}
use Rattle.rand_core.specs.Steps.{Steps, steps_u64_low}

-- the exclusive or of a word and the word shifted up by k places, in 64 bits
abbrev pub with_upper : ℕ → ℕ → ℕ
with_upper k x = bit_xor x (x * 2 ^ k % 2 ^ 64)

-- the exclusive or of a word and the word shifted down by k places
abbrev pub with_lower : ℕ → ℕ → ℕ
with_lower k x = bit_xor x (x / 2 ^ k)

-- the word after this one, and the state after it, which is the same word
abbrev pub word_after : ℕ → ℕ × ℕ
word_after x =
    let word = with_upper 17 (with_lower 7 (with_upper 13 x)) in
    (word, word)

-- what the three calls of a source return, and the state after them
abbrev pub shift_steps : Steps ℕ
shift_steps = steps_u64_low word_after
