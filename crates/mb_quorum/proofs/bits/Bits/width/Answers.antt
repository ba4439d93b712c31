-- Proof of `Bits::width`: the least b with `2^b >= values`.
use Rattle.std.proofs.Common.{arith}
use Rattle.mb_quorum.proofs.bits.Bits.width.Goals as goal

pub returns-clause-small : goal.returns-clause-small
returns-clause-small c =
    omega (arith, c.width.ensures.least.least 32 (omega (arith, c.args.self.now.most)))
