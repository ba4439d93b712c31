use Rattle.std.proofs.Common.{[], false, refl, arith}
use Rattle.mb_channel.specs.ChannelSamples.{last, sleepers}
use Rattle.mb_channel.proofs.samples.sample_answers.Goals as goal

pub returns-clause-behind : goal.returns-clause-behind
returns-clause-behind c e = let n =
    e.empty (last [] false (sleepers 0 0 0 0)) (1, omega arith, refl) refl refl refl in
    absurd (omega (arith, n))
