-- Proof of `states::takes_leave_states`: how the item's load by a consumer whose claim is won changes the state.
use Rattle.mb_world.proofs.TakeStates.{took}
use Rattle.mb_world.proofs.world.states.takes_leave_states.Goals as goal

pub returns : goal.returns
returns c s h d p word k claim is has won =
    let known = c.steps_are_known.ensures s h d p is has.consumer has.lane in
    took s h is d p has.consumer has.lane known k claim has.place won word
