-- Proof of `steps::places_have_turns_left`: a process at a place has an access to make, and at most `turns_left` of
-- them.
use Rattle.mb_deciding.proofs.MostLeft.{most_left}
use Rattle.mb_deciding.proofs.TurnsLeft.{some_left}
use Rattle.mb_deciding.proofs.steps.places_have_turns_left.Goals as goal

pub returns-clause-some : goal.returns-clause-some
returns-clause-some c = some_left

pub returns-clause-most : goal.returns-clause-most
returns-clause-most c = most_left
