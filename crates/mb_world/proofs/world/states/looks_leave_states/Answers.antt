-- Proof of `states::looks_leave_states`: how a look of a consumer that holds no claim changes the state.
use Rattle.mb_world.proofs.LookStates.{looked_in_vain, looked_on, within}
use Rattle.mb_world.proofs.world.states.looks_leave_states.Goals as goal

-- each clause is a lemma, applied to what the laws give for a step of this consumer on this lane (`StepKnown`)
pub returns-clause-within : goal.returns-clause-within
returns-clause-within c s h d p at is has =
    let known = c.steps_are_known.ensures s h d p is has.consumer has.lane in
    within s h is d p has.consumer has.lane known at has.place

pub returns-clause-found : goal.returns-clause-found
returns-clause-found c s h d p word k at claim is has tells own going fresh =
    let known = c.steps_are_known.ensures s h d p is has.consumer has.lane in
    looked_on s h is d p has.consumer has.lane known at has.place word k claim tells own going fresh

pub returns-clause-waited : goal.returns-clause-waited
returns-clause-waited c s h d p word at z is has tells none =
    let known = c.steps_are_known.ensures s h d p is has.consumer has.lane in
    looked_in_vain s h is d p has.consumer has.lane known at has.place word z tells none
