-- Proof of `steps::accesses_lengthen_one_part`: what an access adds to the parts of a history, also if the access
-- may not come next in that history.
use Rattle.mb_claim.proofs.ConsumerParts.{part_own, part_other, part_on-part}
use Rattle.mb_claim.proofs.HistorySteps.{own_part, other_part}
use Rattle.mb_claim.proofs.steps.accesses_lengthen_one_part.Goals as goal

pub returns-clause-own : goal.returns-clause-own
returns-clause-own c = part_own

pub returns-clause-others : goal.returns-clause-others
returns-clause-others c = part_other

pub returns-clause-own_cell : goal.returns-clause-own_cell
returns-clause-own_cell c = own_part

pub returns-clause-other_cells : goal.returns-clause-other_cells
returns-clause-other_cells c = other_part

pub returns-clause-cells : goal.returns-clause-cells
returns-clause-cells c = part_on-part
