use Rattle.mb_channel.specs.Ends.{AreOfOneChannel}
use Rattle.test_channel.proofs.receiving.Receiving.work.Given as goal

-- after each value received the receiver is still of its channel
abbrev pub invariant-loop : goal.invariant-loop
invariant-loop g l = AreOfOneChannel l.initial.worker.receiver.end l.worker.receiver.end
