use Rattle.mb_mailbox.proofs.Holding.{competes, takes}
use Rattle.mb_mailbox.proofs.Moving.{finds, may_look, waits}
use Rattle.mb_mailbox.proofs.consumer.moves.consumers_move_on.Goals as goal

pub returns-clause-laws : goal.returns-clause-laws
returns-clause-laws c = c.laws_hold.ensures

pub returns-clause-may_look : goal.returns-clause-may_look
returns-clause-may_look c s p at i h e =
    may_look c.laws_hold.ensures s p at i h e

pub returns-clause-waits : goal.returns-clause-waits
returns-clause-waits c s p v at i h e says =
    waits c.laws_hold.ensures s p at i h e v says

pub returns-clause-finds : goal.returns-clause-finds
returns-clause-finds c s p k at claim i h e real comes own going turns =
    finds c.laws_hold.ensures s p at i h e k claim real comes own going turns

pub returns-clause-competes : goal.returns-clause-competes
returns-clause-competes c s p k word seen claim now next i h e own turns =
    competes s p k claim i e c.laws_hold.ensures h word seen now next own turns

pub returns-clause-takes : goal.returns-clause-takes
returns-clause-takes c s p k v claim i h e won =
    takes s p k claim i e c.laws_hold.ensures h v won
