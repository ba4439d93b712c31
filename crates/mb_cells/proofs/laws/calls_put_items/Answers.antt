-- Proof of `laws::calls_put_items`: what any list of calls does, said by the calls and their answers alone.
use Rattle.mb_cells.proofs.laws.calls_put_items.Goals as goal
use Rattle.mb_cells.proofs.CallLaws.{calls_answer, calls_once, calls_once_each, calls_read, calls_within}
use Rattle.mb_cells.proofs.CallNumbers.{calls_cell, calls_counter, calls_full, calls_issued}

pub returns-clause-reads : goal.returns-clause-reads
returns-clause-reads c = calls_read

pub returns-clause-answers : goal.returns-clause-answers
returns-clause-answers c = calls_answer

pub returns-clause-cell : goal.returns-clause-cell
returns-clause-cell c = calls_cell

pub returns-clause-full : goal.returns-clause-full
returns-clause-full c = calls_full

pub returns-clause-lane : goal.returns-clause-lane
returns-clause-lane c = calls_once

pub returns-clause-once : goal.returns-clause-once
returns-clause-once c = calls_once_each

pub returns-clause-issued : goal.returns-clause-issued
returns-clause-issued c = calls_issued

pub returns-clause-counter : goal.returns-clause-counter
returns-clause-counter c = calls_counter

pub returns-clause-within : goal.returns-clause-within
returns-clause-within c = calls_within
