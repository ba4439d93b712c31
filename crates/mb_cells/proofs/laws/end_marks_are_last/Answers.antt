-- Proof of `laws::end_marks_are_last`: an end mark is its producer's last access. Who loaded it met the lane's cells.
use Rattle.mb_cells.proofs.laws.end_marks_are_last.Goals as goal
use Rattle.mb_cells.proofs.EndMarks.{after_end, end_told}
use Rattle.mb_cells.proofs.Histories.{met_all}
use Rattle.mb_cells.proofs.ReaderParts.{all_met}

pub returns-clause-producer : goal.returns-clause-producer
returns-clause-producer c = after_end

pub returns-clause-reader : goal.returns-clause-reader
returns-clause-reader c = met_all

pub returns-clause-told : goal.returns-clause-told
returns-clause-told c = end_told

pub returns-clause-all : goal.returns-clause-all
returns-clause-all c = all_met
