-- Proof of `laws::schedules_have_one_trace`: a schedule has one trace at most: entries and outputs are determined by
-- the object, its inputs and the schedule.
use Rattle.mb_deciding.proofs.OneTrace.{one_trace}
use Rattle.mb_deciding.proofs.laws.schedules_have_one_trace.Goals as goal

pub returns : goal.returns
returns c = one_trace
