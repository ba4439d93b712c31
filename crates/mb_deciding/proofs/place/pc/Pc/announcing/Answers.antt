-- Proof of `Pc::announcing`: the place of a process with this input before its first access to a ratifier, with the
-- registers of its write quorum already taken from the table.
use Rattle.std.proofs.Common.{count_ones, ap, arith}
use Rattle.mb_deciding.proofs.Sizes.{largest_bound}
use Rattle.mb_deciding.proofs.place.pc.Pc.announcing.Goals as goal

pub returns-clause-bound : goal.returns-clause-bound
returns-clause-bound g c =
    let t = g.Q.Quorums.table c.args.q.now in
    omega (arith, ap count_ones c.write_quorum-left.ensures, largest_bound t.write t.values c.args.input c.requires)
