use Rattle.std.proofs.Common.{ap, ◌+◌, ◌∙◌}
use Rattle.mb_ring.specs.Vocabulary.{gives_token}
use Rattle.mb_ring.proofs.ListMoves.{gives_none, one_more}
use Rattle.mb_ring.proofs.ring.Ring.pay_all.Goals as goal

pub loop-preserved-in-One : goal.loop-preserved-in-One
loop-preserved-in-One g c =
    let i = c.loop.invariant in let a = c.in-One.ensures in let v = c.args.pass.now.seat.me.0 in
    let q = g.Q.AnyList.want in (
      tt,
      tt,
      a.pass.0 ∙ i.2,
      a.pass.1 ∙ i.3,
      (i.4.0 + 1, a.answer.0 ∙ (ap (gives_token q) i.4.1 ∙ one_more q v i.4.0)),
      a.answer.1 ∙ i.5,
    )
