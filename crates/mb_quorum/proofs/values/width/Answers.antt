-- Proof of `width`: how many bits tell m values apart: the least b with `m <= 2^b`.
use Rattle.std.proofs.Common.{sym, subst, arith}
use Rattle.std.proofs.lemmas.Nat.{leading_length}
use Rattle.mb_quorum.specs.Width.{IsLeastWidth}
use Rattle.mb_quorum.specs.WidthLaw.{width_is_least}
use Rattle.mb_quorum.proofs.LeastWidth.{digits_are_width}
use Rattle.mb_quorum.proofs.values.width.Goals as goal

pub returns-clause-exact : goal.returns-clause-exact
returns-clause-exact c =
    let digits = leading_length 64 c.saturating_sub.result (omega arith) in
    omega (arith, digits.1, digits_are_width c.args.m c.saturating_sub.result digits.0 (omega arith) digits.2 digits.3)

pub returns-clause-least : goal.returns-clause-least
returns-clause-least c = subst (IsLeastWidth c.args.m) (sym (returns-clause-exact c)) (width_is_least c.args.m)
