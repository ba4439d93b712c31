-- Proof of `laws::lanes_share_cells`: all lanes together have at most as many items as the pool has cells.
use Rattle.mb_cells.proofs.laws.lanes_share_cells.Goals as goal
use Rattle.mb_cells.proofs.Totals.{all_items, few_in_all, idle_linked}

pub returns-clause-few : goal.returns-clause-few
returns-clause-few c = few_in_all

pub returns-clause-all : goal.returns-clause-all
returns-clause-all c = all_items

pub returns-clause-idle : goal.returns-clause-idle
returns-clause-idle c = idle_linked
