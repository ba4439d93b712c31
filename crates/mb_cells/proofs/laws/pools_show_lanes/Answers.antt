-- Proof of `laws::pools_show_lanes`: a pool shows on each lane the put list of any history that leaves it, and then the
-- lane's end.
use Rattle.mb_cells.proofs.laws.pools_show_lanes.Goals as goal
use Rattle.mb_cells.proofs.CallLaws.{state_reads}

pub returns : goal.returns
returns c = state_reads
