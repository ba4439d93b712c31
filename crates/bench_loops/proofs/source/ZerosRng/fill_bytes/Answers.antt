use Rattle.std.proofs.Common.{ap}
use Rattle.rand_core.specs.Stream.{fill_bytes}
use Rattle.bench_loops.specs.Zeros.{zeros}
use Rattle.bench_loops.proofs.source.ZerosRng.fill_bytes.Goals as goal

-- each byte is 0, and the source goes on with zeros
pub returns : goal.returns
unfolding fill_bytes
returns c = ap (λ xs. (xs, zeros)) (c.fill.ensures.after (λ y e. e))
