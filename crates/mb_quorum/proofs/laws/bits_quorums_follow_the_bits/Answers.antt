-- Proof of `laws::bits_quorums_follow_the_bits`: in the bit table, a write quorum holds the registers 2i + (bit i of
-- its value), for each i below the width. A read quorum holds the other one of 2i and 2i + 1.
use Rattle.mb_quorum.specs.Bits.{named_register, other_register}
use Rattle.mb_quorum.specs.Width.{width_of}
use Rattle.mb_quorum.specs.MaskLaw.{mask_of-member}
use Rattle.mb_quorum.proofs.laws.bits_quorums_follow_the_bits.Goals as goal

pub returns-clause-write : goal.returns-clause-write
returns-clause-write c m v r = mask_of-member (named_register v) (width_of m) r

pub returns-clause-read : goal.returns-clause-read
returns-clause-read c m v r = mask_of-member (other_register v) (width_of m) r
