-- A source of words that are all 0.
use Rattle.std.specs.Prelude.{replicate}
use Rattle.rand_core.specs.Stream.{Stream}

-- each call of this source gives the word 0, or as many bytes 0 as were asked for
abbrev pub zeros : Stream
zeros = record { u32_after = λ _. 0; u64_after = λ _. 0; bytes_after = λ _ n. replicate n 0 }
