-- Proof of `laws::claims_have_steps_left`: a claim that is going has an access to make, and one that has ended has
-- none.
use Rattle.std.proofs.Common.{refl, arith}
use Rattle.mb_claim.specs.{quorums_of}
use Rattle.mb_claim.proofs.MostSteps.{most_steps}
use Rattle.mb_claim.proofs.StepsLeft.{ended_left, going_left}
use Rattle.mb_claim.proofs.laws.claims_have_steps_left.Goals as goal

pub returns-clause-going : goal.returns-clause-going
returns-clause-going c layout claim fits going =
    omega (
      arith,
      going_left layout claim going,
      c.places_have_turns_left.ensures.some (quorums_of layout) claim.place (fits going).place,
    )

pub returns-clause-ended : goal.returns-clause-ended
returns-clause-ended c layout claim ended = ended_left layout claim claim.stage refl ended

pub returns-clause-most : goal.returns-clause-most
returns-clause-most c layout claim xs of =
    most_steps layout claim xs of
    (λ kind v pc turns value at. c.places_have_turns_left.ensures.most (quorums_of layout) kind v pc turns value at)
