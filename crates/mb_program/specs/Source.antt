-- The source of a consumer's random words.
use Rattle.std.specs.Prelude.{ℕ, List, ◌++◌, replicate}
use Rattle.std.specs.Int.{w64, to_le_bytes}
use Rattle.rand_core.specs.Steps.{steps_u32, stream_of}
use Rattle.rand_core.specs.Stream.{Stream}
use Rattle.rand_chacha.specs.ChaCha.{ChaCha, next_word, of_seed}

-- the seed in eight bytes, the lowest first, and 24 zeros
abbrev pub seed_bytes : ℕ → List ℕ
seed_bytes seed = to_le_bytes w64 seed ++ replicate 24 0

-- the generator of these bytes, at the beginning of stream c
abbrev pub source_from : ℕ → ℕ → ChaCha
source_from seed c = record (of_seed (seed_bytes seed)) { stream = c }

-- the random words that a generator (ChaCha of eight rounds) gives from now on
abbrev pub words_from : ChaCha → Stream
words_from rng = stream_of (steps_u32 (next_word 4)) rng
