-- Proof of `laws::numbers_are_issued_once`: the counter is bounded, and each number below it was given by one
-- fetch-add.
use Rattle.mb_cells.proofs.laws.numbers_are_issued_once.Goals as goal
use Rattle.mb_cells.proofs.Counter.{counter_count, fetch-below, fetch-one}
use Rattle.mb_cells.proofs.Counts.{all_issued, counter_bound, found_count, issued}
use Rattle.mb_cells.proofs.Histories.{lawful-counted}

pub returns-clause-bound : goal.returns-clause-bound
returns-clause-bound c = counter_bound

pub returns-clause-given : goal.returns-clause-given
returns-clause-given c = λ size h p e l has. fetch-below h p e (lawful-counted size h l) has

pub returns-clause-issued : goal.returns-clause-issued
returns-clause-issued c = λ size h k l lt. issued h k (lawful-counted size h l) lt

pub returns-clause-once : goal.returns-clause-once
returns-clause-once c = λ size h p q e f l. fetch-one h p q e f (lawful-counted size h l)

pub returns-clause-refused : goal.returns-clause-refused
returns-clause-refused c = all_issued

pub returns-clause-counter : goal.returns-clause-counter
returns-clause-counter c = λ size h l. counter_count h (lawful-counted size h l)

pub returns-clause-found : goal.returns-clause-found
returns-clause-found c = found_count
