-- Proof of `states::claims_leave_states`: how a step of a consumer's claim changes the state.
use Rattle.std.proofs.Common.{refl}
use Rattle.mb_claim.specs.OneClaim.{claim_stage}
use Rattle.mb_world.proofs.CompeteStates.{competed}
use Rattle.mb_world.proofs.HeldStates.{claim_on, goes_unless_won}
use Rattle.mb_world.proofs.world.states.claims_leave_states.Goals as goal

-- each clause is a lemma, applied to what the laws give for a step of this consumer on this lane (`StepKnown`)
pub returns-clause-going : goal.returns-clause-going
returns-clause-going c s h d p k claim is has not_won =
    let known = c.steps_are_known.ensures s h d p is has.consumer has.lane in
    goes_unless_won s h is d p has.consumer has.lane known k claim has.place not_won

pub returns-clause-on : goal.returns-clause-on
returns-clause-on c s h d p k claim is has =
    let known = c.steps_are_known.ensures s h d p is has.consumer has.lane in
    claim_on s h is d p has.consumer has.lane known k claim has.place

pub returns-clause-competed : goal.returns-clause-competed
returns-clause-competed c s h d p word k claim now words x is has going keeps random made =
    let known = c.steps_are_known.ensures s h d p is has.consumer has.lane in
    competed s h is d p has.consumer has.lane known k claim has.place going words now x keeps made (claim_stage now)
    refl word random
