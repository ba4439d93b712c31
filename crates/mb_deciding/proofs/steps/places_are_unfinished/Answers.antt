-- Proof of `steps::places_are_unfinished`: the turns of a process at a place are an open prefix of a path.
use Rattle.mb_deciding.proofs.Stepping.{at_open, at_part, at_unfinished, at_word}
use Rattle.mb_deciding.proofs.steps.places_are_unfinished.Goals as goal

pub returns-clause-open : goal.returns-clause-open
returns-clause-open c = at_open

pub returns-clause-prefix : goal.returns-clause-prefix
returns-clause-prefix c = at_part

pub returns-clause-unfinished : goal.returns-clause-unfinished
returns-clause-unfinished c = at_unfinished

pub returns-clause-word : goal.returns-clause-word
returns-clause-word c = at_word
