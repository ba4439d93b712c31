use Rattle.std.proofs.Common.{refl}
use Rattle.rand_core.specs.Stream.{next_u32}
use Rattle.bench_loops.proofs.source.ZerosRng.next_u32.Goals as goal

-- the word is 0, and the source goes on with zeros
pub returns : goal.returns
unfolding next_u32
returns c = refl
