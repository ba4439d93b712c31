use Rattle.std.proofs.Common.{ap, arith, length}
use Rattle.mb_channel.specs.declared.kept.KeptSender.{KeptSender}
use Rattle.mb_channel.proofs.work_samples.sample_told_length.Goals as goal

pub returns-clause-silent : goal.returns-clause-silent
returns-clause-silent c n k same =
    let l = ap (λ (x : KeptSender _). length x.chair.me.0.lengths) same in absurd (omega (arith, l))
