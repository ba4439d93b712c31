use Rattle.std.proofs.Common.{rules}
use Rattle.rand_core.proofs.StepsLemmas.{meets_next_u64}
use Rattle.bench_loops.proofs.source.SourceRng.next_u64.Goals as goal

-- this call takes the source's next words, as `shift_steps` says
pub returns : goal.returns
returns c = meets_next_u64 _ _ _ _ (search rules)
