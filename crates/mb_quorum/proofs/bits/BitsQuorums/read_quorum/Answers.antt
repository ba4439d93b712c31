-- Proof of `Bits::read_quorum`: for each bit of the value, the register that the bit does not name, as a mask.
use Rattle.std.proofs.Common.{◌∙◌, ap}
use Rattle.mb_quorum.specs.Bits.{other_register}
use Rattle.mb_quorum.specs.Mask.{mask_of}
use Rattle.mb_quorum.proofs.Masks.{mask_of-flipped}
use Rattle.mb_quorum.proofs.bits.BitsQuorums.read_quorum.Goals as goal

pub returns : goal.returns
returns c =
    let flipped = mask_of-flipped c.args.v c.width.result c.ranges.v.fits c.width.ensures.small in
    c.mask_of_bits.ensures ∙ flipped ∙ ap (mask_of (other_register c.args.v)) c.width.ensures.least
