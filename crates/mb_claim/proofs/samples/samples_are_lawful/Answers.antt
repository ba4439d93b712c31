-- Proof of `samples::samples_are_lawful`: a history that is lawful, and the stages of its claims.
use Rattle.std.proofs.Common.{arith}
use Rattle.mb_quorum.specs.UnaryLaw.{unary_lawful}
use Rattle.mb_claim.specs.{Won, Lost, part_on, two_consumers, won_and_lost}
use Rattle.mb_claim.proofs.LawfulSamples.{lawful, won, lost}
use Rattle.mb_claim.proofs.samples.samples_are_lawful.Goals as goal

pub returns-clause-lawful : goal.returns-clause-lawful
returns-clause-lawful c = lawful

pub returns-clause-won : goal.returns-clause-won
returns-clause-won c = ((omega arith), won)

pub returns-clause-lost : goal.returns-clause-lost
returns-clause-lost c = ((omega arith), lost)

-- the same steps have one stage
pub returns-clause-not_won : goal.returns-clause-not_won
returns-clause-not_won c has =
    let e = c.prefixes_have_one_stage.ensures two_consumers 1 (part_on 1 0 won_and_lost) (Lost 0) Won
    (unary_lawful 2 (omega arith)) lost has.1 in
    cc
