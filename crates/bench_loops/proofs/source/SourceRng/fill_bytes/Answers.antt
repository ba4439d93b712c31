use Rattle.std.proofs.Common.{rules}
use Rattle.rand_core.proofs.StepsLemmas.{meets_fill_bytes}
use Rattle.bench_loops.proofs.source.SourceRng.fill_bytes.Goals as goal

-- this call takes the source's next words, as `shift_steps` says
pub returns : goal.returns
returns c = meets_fill_bytes _ _ _ _ _ (search rules)
