-- Proof of `least`: the least register in a mask that is not empty.
use Rattle.std.proofs.Common.{◌≡◌, arith, w64}
use Rattle.std.specs.Int.{bit_at}
use Rattle.std.proofs.lemmas.Nat.Bits.{bit_at-trailing_zeros}
use Rattle.mb_deciding.proofs.place.mask.least.Goals as goal

pub returns-clause-member : goal.returns-clause-member
returns-clause-member c =
    let lowest = bit_at-trailing_zeros w64 c.args.mask (omega arith) (omega arith) in
    record {
      member = lowest.1;
      least = λ k below m. let z : bit_at c.args.mask k ≡ 0 = lowest.2 k below in absurd (omega arith);
    }
