-- What the loop of `mask_of_bits` keeps: `mask` has exactly the registers 2j + (bit j of `bits`) with j below `i`.
use Rattle.std.proofs.Common.{◌≡◌}
use Rattle.mb_quorum.specs.Bits.{named_register}
use Rattle.mb_quorum.specs.Mask.{mask_of}
use Rattle.mb_quorum.proofs.bits.mask_of_bits.Given as goal

abbrev pub invariant-loop-i : goal.invariant-loop-i
invariant-loop-i l = l.mask ≡ mask_of (named_register l.bits) l.i
