use Rattle.std.proofs.Common.{[], ◌∷◌, length, ap, arith, refl, true}
use Rattle.mb_channel.specs.ChannelSamples.{entry, last, sleepers}
use Rattle.mb_channel.proofs.samples.sample_segments.Goals as goal

pub returns-clause-told : goal.returns-clause-told
returns-clause-told c e = let n =
    ap length ((e.told refl).1 0 (last (entry 0 11 ∷ []) true (sleepers 0 0 0 0)) (omega arith)) in
    absurd (omega (arith, n))

pub returns-clause-unlogged : goal.returns-clause-unlogged
returns-clause-unlogged c e = let n = ap length (e.takes 2) in absurd (omega (arith, n))
