-- Loop invariants of `sources`, which returns the sources of the consumers' random words, one for each consumer.
use Rattle.std.proofs.Common.{◌≡◌, map}
use Rattle.std.specs.Prelude.{vec_len}
use Rattle.std.specs.List.{range_with_len}
use Rattle.mb_program.specs.Source.{source_from}
use Rattle.mb_program.proofs.run.sources.Given as goal

-- so far the sources are those of the first c consumers
abbrev pub invariant-loop-c : goal.invariant-loop-c
invariant-loop-c g l = (l.rngs.items ≡ map (source_from l.seed) (range_with_len 0 l.c)) × (vec_len l.rngs ≡ l.c)
