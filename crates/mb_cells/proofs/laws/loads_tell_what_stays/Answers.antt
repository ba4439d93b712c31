-- Proof of `laws::loads_tell_what_stays`: a load of a head or link gives 0, or what that word holds from then on.
use Rattle.mb_cells.proofs.laws.loads_tell_what_stays.Goals as goal
use Rattle.mb_cells.proofs.Histories.{link_load}
use Rattle.mb_cells.proofs.Items.{given, item_put, item_value}
use Rattle.mb_cells.proofs.LaneReading.{end_load, next_load}

pub returns-clause-link : goal.returns-clause-link
returns-clause-link c = link_load

pub returns-clause-item : goal.returns-clause-item
returns-clause-item c = item_value

pub returns-clause-item_put : goal.returns-clause-item_put
returns-clause-item_put c = item_put

pub returns-clause-cell_put : goal.returns-clause-cell_put
returns-clause-cell_put c = given

pub returns-clause-next : goal.returns-clause-next
returns-clause-next c = next_load

pub returns-clause-end : goal.returns-clause-end
returns-clause-end c = end_load
