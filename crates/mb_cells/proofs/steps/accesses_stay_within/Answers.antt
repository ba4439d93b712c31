-- Proof of `steps::accesses_stay_within`: all accesses go to words of the pool, also those that may come next.
use Rattle.mb_cells.proofs.steps.accesses_stay_within.Goals as goal
use Rattle.mb_cells.proofs.NextAccesses.{all_within, link_within, push_value, push_within, read_within}

pub returns-clause-push : goal.returns-clause-push
returns-clause-push c = push_within

pub returns-clause-link : goal.returns-clause-link
returns-clause-link c = link_within

pub returns-clause-load : goal.returns-clause-load
returns-clause-load c = read_within

pub returns-clause-all : goal.returns-clause-all
returns-clause-all c = all_within

pub returns-clause-fits : goal.returns-clause-fits
returns-clause-fits c = push_value
