-- Proof of `steps::history_extends`: the empty history is lawful. A history stays lawful with a turn that is in words,
-- is true to memory, and gives a process with an input of the table a prefix of a path.
use Rattle.mb_deciding.proofs.Histories.{longer, none_lawful}
use Rattle.mb_deciding.proofs.steps.history_extends.Goals as goal

pub returns-clause-empty : goal.returns-clause-empty
returns-clause-empty c = none_lawful

pub returns-clause-longer : goal.returns-clause-longer
returns-clause-longer c = longer
