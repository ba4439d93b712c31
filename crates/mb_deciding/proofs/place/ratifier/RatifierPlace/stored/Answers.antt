-- Proof of `RatifierPlace::stored`: after the store in the least register left, that register is no longer left.
use Rattle.std.proofs.Common.{◌≡◌, ◌<◌, arith}
use Rattle.mb_quorum.specs.Quorum.{IsQuorumTable}
use Rattle.mb_deciding.specs.{acts}
use Rattle.mb_deciding.proofs.Advances.{announced_more}
use Rattle.mb_deciding.proofs.place.ratifier.RatifierPlace.stored.Goals as goal

pub returns-clause-reached : goal.returns-clause-reached
returns-clause-reached g c seen v turns op word at is can =
    let t = g.Q.Quorums.table c.args.q.now in
    let q : IsQuorumTable t = g.met.Q.Quorums.lawful c.args.q.now in
    let same : c.args.input ≡ v = at.1.0 in
    let within : v < t.values = omega arith in (
      c.requires.input,
      announced_more t q v c.args.input c.args.left c.least.result c.without-left.result
          (acts turns) op seen within at.1 is
          c.requires.some c.least.ensures.member c.without-left.ensures.taken,
    )
