-- Proof of `steps::places_lead_on`: with its next turn, which finds what the history leaves in the word, a process at
-- its place has a prefix of a path.
use Rattle.mb_deciding.proofs.Stepping.{next_part, next_found}
use Rattle.mb_deciding.proofs.Courses.{reads_seen}
use Rattle.mb_deciding.proofs.steps.places_lead_on.Goals as goal

pub returns-clause-prefix : goal.returns-clause-prefix
returns-clause-prefix c o = next_part o.table o.kind o.inputs

pub returns-clause-found : goal.returns-clause-found
returns-clause-found c o = next_found o.table o.kind o.inputs

pub returns-clause-reads : goal.returns-clause-reads
returns-clause-reads c op word h = reads_seen op h
