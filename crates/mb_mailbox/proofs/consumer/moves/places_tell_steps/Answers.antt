use Rattle.mb_mailbox.proofs.NextSteps.{competes_next, looks_next, takes_next}
use Rattle.mb_mailbox.proofs.consumer.moves.places_tell_steps.Goals as goal

pub returns-clause-looks : goal.returns-clause-looks
returns-clause-looks c s p v at i e = looks_next c.laws_hold.ensures s p v at i e

pub returns-clause-competes : goal.returns-clause-competes
returns-clause-competes c s p k word seen claim now next i e going own turns =
    competes_next c.laws_hold.ensures s p k word seen claim now next i e going own turns

pub returns-clause-takes : goal.returns-clause-takes
returns-clause-takes c s p k v claim i e won = takes_next s p k v claim i e won
