-- Proof of `steps::turns_name_the_next_op`: the turns that a process has made determine its next op, whatever memory
-- holds.
use Rattle.mb_deciding.proofs.SameOp.{same_act}
use Rattle.mb_deciding.proofs.OneTrace.{next_op}
use Rattle.mb_deciding.proofs.OnePlace.{one_next}
use Rattle.mb_deciding.proofs.steps.turns_name_the_next_op.Goals as goal

pub returns-clause-op : goal.returns-clause-op
returns-clause-op c = next_op

pub returns-clause-places : goal.returns-clause-places
returns-clause-places c = one_next

pub returns-clause-act : goal.returns-clause-act
returns-clause-act c = same_act
