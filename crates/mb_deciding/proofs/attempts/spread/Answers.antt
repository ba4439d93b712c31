-- Proof of `spread`: the last attempt of a conciliator for m values: one more than the least b with `m <= 2^b`.
use Rattle.std.proofs.Common.{◌≡◌, subst, arith}
use Rattle.mb_quorum.specs.Vocabulary.{IsLeastWidth}
use Rattle.mb_deciding.proofs.attempts.spread.Goals as goal

pub returns-clause-least : goal.returns-clause-least
returns-clause-least c b is =
    let same : c.width.result ≡ b = omega arith in
    subst (λ n. IsLeastWidth c.args.m n) same c.width.ensures.least
