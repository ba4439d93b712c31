-- Proof of `Kind::place`: the place of a process before its first access.
use Rattle.mb_deciding.proofs.object.Kind.place.Goals as goal

pub returns-in-Conciliator-clause-exact : goal.returns-in-Conciliator-clause-exact
returns-in-Conciliator-clause-exact g c =
    rw (c.in-Conciliator.is) (c.conciliator.ensures.exact (g.Q.Quorums.table c.args.q.now))

pub returns-in-LastObject-clause-exact : goal.returns-in-LastObject-clause-exact
returns-in-LastObject-clause-exact g c = rw (c.in-LastObject.is) (c.last.ensures.exact (g.Q.Quorums.table c.args.q.now))
