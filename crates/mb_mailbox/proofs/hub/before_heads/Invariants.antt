use Rattle.mb_mailbox.specs.NewConsumers.{AreHeads}
use Rattle.mb_mailbox.proofs.hub.before_heads.Given as goal

-- there are p places so far, and the place on each lane below p is before that lane's head
abbrev pub invariant-loop-p : goal.invariant-loop-p
invariant-loop-p l = AreHeads l.p l.places.items
