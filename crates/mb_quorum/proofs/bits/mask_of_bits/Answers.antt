-- Proof of `mask_of_bits`: the mask of the register 2i + (bit i of `bits`), for each i below the width.
use Rattle.std.proofs.Common.{◌<◌, arith}
use Rattle.mb_quorum.proofs.Masks.{mask_of-next}
use Rattle.mb_quorum.proofs.bits.mask_of_bits.Goals as goal

pub loop-i-preserved : goal.loop-i-preserved
loop-i-preserved c =
    let within : c.loop-i.i < 32 = omega (arith, c.loop-i-test.true, c.requires) in
    mask_of-next c.args.bits c.loop-i.i c.loop-i.mask within c.loop-i.invariant
