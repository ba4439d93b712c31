-- Proof of `laws::words_lead_through_lanes`: the words lead from a lane's head through the cells put, to the end mark
-- or to 0.
use Rattle.mb_cells.proofs.laws.words_lead_through_lanes.Goals as goal
use Rattle.mb_cells.proofs.EndMarks.{end_word}
use Rattle.mb_cells.proofs.Items.{item_held}
use Rattle.mb_cells.proofs.LaneReading.{lane_reads, next_cell}

pub returns-clause-reads : goal.returns-clause-reads
returns-clause-reads c = lane_reads

pub returns-clause-next : goal.returns-clause-next
returns-clause-next c = next_cell

pub returns-clause-end : goal.returns-clause-end
returns-clause-end c = end_word

pub returns-clause-items : goal.returns-clause-items
returns-clause-items c = item_held
