-- Proof of `Pc::after`: what the next access of a place leads to.
use Rattle.std.proofs.Common.{sym}
use Rattle.mb_deciding.proofs.place.pc.Pc.after.Goals as goal

pub returns-in-InConciliator-clause-fits : goal.returns-in-InConciliator-clause-fits
returns-in-InConciliator-clause-fits g c =
    rw (c.from_place.ensures) (c.after-out.ensures.fits (g.Q.Quorums.table c.args.q.now) (sym c.values.ensures))
