-- Proof of `RatifierPlace::checks`: goes on to check the registers that are left, or decides if none is left.
use Rattle.std.proofs.Common.{sym, subst}
use Rattle.mb_deciding.specs.{Ratifier, Out, acts, IsPath}
use Rattle.mb_deciding.proofs.Advances.{checked_whole}
use Rattle.mb_deciding.proofs.place.ratifier.RatifierPlace.checks.Goals as goal

pub returns-then-left-eq0-clause-reached : goal.returns-then-left-eq0-clause-reached
returns-then-left-eq0-clause-reached c t v bound turns within few rest clear =
    subst (λ (output : Out). IsPath t Ratifier v turns output) (sym c.decided.ensures)
    (checked_whole t v c.args.preference bound c.args.left (acts turns) few rest c.if-left-eq0.true clear)
