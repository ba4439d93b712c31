-- Proof of `steps::history_extends`: lawful histories grow by one access after another.
use Rattle.mb_cells.proofs.steps.history_extends.Goals as goal
use Rattle.mb_cells.proofs.OneStep.{empty_lawful, older_lawful, producer_step, reader_step}

pub returns-clause-empty : goal.returns-clause-empty
returns-clause-empty c = empty_lawful

pub returns-clause-older : goal.returns-clause-older
returns-clause-older c = older_lawful

pub returns-clause-producer : goal.returns-clause-producer
returns-clause-producer c = producer_step

pub returns-clause-reader : goal.returns-clause-reader
returns-clause-reader c = reader_step
