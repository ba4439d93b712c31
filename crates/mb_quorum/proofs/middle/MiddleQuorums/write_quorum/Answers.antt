-- Proof of `Middle::write_quorum`: the set of registers that has the value as its number, as a mask.
use Rattle.std.proofs.Common.{◌<◌, ◌/◌, sym, subst}
use Rattle.mb_quorum.specs.Middle.{choose}
use Rattle.mb_quorum.specs.MiddleLaw.{in_table}
use Rattle.mb_quorum.proofs.middle.MiddleQuorums.write_quorum.Goals as goal

pub set_number-requires-clause-known : goal.set_number-requires-clause-known
set_number-requires-clause-known c =
    subst (λ k. c.args.v < choose k (k / 2)) (sym c.breadth-registers.ensures.exact)
    (in_table c.args.self.now.values c.args.v c.requires)
