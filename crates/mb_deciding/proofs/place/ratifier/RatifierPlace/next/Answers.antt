-- Proof of `RatifierPlace::next`: the access that the process makes next.
use Rattle.std.proofs.Common.{sym, subst}
use Rattle.mb_deciding.specs.{Announce, IsRatifierOp}
use Rattle.mb_deciding.proofs.Advances.{begin_op}
use Rattle.mb_deciding.proofs.place.ratifier.RatifierPlace.next.Goals as goal

pub returns-in-Begin : goal.returns-in-Begin
returns-in-Begin g c =
    let t = g.Q.Quorums.table c.args.q.now in
    let op = c.announcing.result in
    let announcing : IsRatifierOp t (Announce c.in-Begin.input (t.write c.in-Begin.input)) op =
    subst (λ left. IsRatifierOp t (Announce c.in-Begin.input left) op) c.write_quorum.ensures
    (c.announcing.ensures t c.in-Begin.input) in
    subst (λ place. IsRatifierOp t place op) (sym c.in-Begin.is) ((begin_op t c.in-Begin.input op).1 announcing)

pub returns-in-Announce : goal.returns-in-Announce
returns-in-Announce g c =
    let t = g.Q.Quorums.table c.args.q.now in
    subst (λ place. IsRatifierOp t place c.announcing-in-Announce.result) (sym c.in-Announce.is)
    (c.announcing-in-Announce.ensures t c.in-Announce.input)
