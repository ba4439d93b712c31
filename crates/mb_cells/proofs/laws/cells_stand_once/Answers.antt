-- Proof of `laws::cells_stand_once`: a cell of the pool is linked into one lane at most, and at most once there.
use Rattle.mb_cells.proofs.laws.cells_stand_once.Goals as goal
use Rattle.mb_cells.proofs.Items.{cell_within, once_each, one_lane}
use Rattle.mb_cells.proofs.Totals.{few_cells, few_items}

pub returns-clause-lane : goal.returns-clause-lane
returns-clause-lane c = one_lane

pub returns-clause-once : goal.returns-clause-once
returns-clause-once c = once_each

pub returns-clause-within : goal.returns-clause-within
returns-clause-within c = cell_within

pub returns-clause-few : goal.returns-clause-few
returns-clause-few c = few_cells

pub returns-clause-put : goal.returns-clause-put
returns-clause-put c = few_items
