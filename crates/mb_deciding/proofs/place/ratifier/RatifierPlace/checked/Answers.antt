-- Proof of `RatifierPlace::checked`: what follows the load of the least register that is left to check.
use Rattle.std.proofs.Common.{◌∷◌, sym, subst}
use Rattle.mb_quorum.specs.Quorum.{IsQuorumTable}
use Rattle.mb_deciding.specs.{Ratifier, Out, acts, IsPath, act_of}
use Rattle.mb_deciding.proofs.TurnsLeft.{some_ones}
use Rattle.mb_deciding.proofs.Advances.{checked_zero, checked_one}
use Rattle.mb_deciding.proofs.place.ratifier.RatifierPlace.checked.Goals as goal

pub returns-then-seen-eq0-clause-fits : goal.returns-then-seen-eq0-clause-fits
returns-then-seen-eq0-clause-fits g c = c.checks.ensures.fits (g.Q.Quorums.table c.args.q.now) c.requires.0

pub returns-then-seen-eq0-clause-reached : goal.returns-then-seen-eq0-clause-reached
returns-then-seen-eq0-clause-reached g c v turns op word at is can =
    let t = g.Q.Quorums.table c.args.q.now in
    let q : IsQuorumTable t = g.met.Q.Quorums.lawful c.args.q.now in
    let checked =
    checked_zero t q v c.args.preference c.args.left c.least.result c.without.result
    (acts turns) op c.args.seen c.requires.0 at.1 is
    c.if-seen-eq0.true c.least.ensures.member c.without.ensures.taken in
    c.checks.ensures.reached t v _
    (record { act = act_of op c.args.seen; word = word } ∷ turns) c.requires.0 checked.0 checked.1 checked.2

pub returns-else-seen-eq0-clause-reached : goal.returns-else-seen-eq0-clause-reached
returns-else-seen-eq0-clause-reached g c v turns op word at is can =
    let t = g.Q.Quorums.table c.args.q.now in
    let q : IsQuorumTable t = g.met.Q.Quorums.lawful c.args.q.now in
    subst (λ (output : Out). IsPath t Ratifier v (record { act = act_of op c.args.seen; word = word } ∷ turns) output)
    (sym c.undecided.ensures)
    (checked_one t q v c.args.preference c.args.left (acts turns) op c.args.seen c.requires.0 at.1 is can
    c.if-seen-eq0.false)

pub returns-else-seen-eq0-clause-fewer : goal.returns-else-seen-eq0-clause-fewer
returns-else-seen-eq0-clause-fewer g c = some_ones c.args.left c.requires.1
