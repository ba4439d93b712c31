use Rattle.mb_channel.specs.Ends.{AreOfOneChannel}
use Rattle.test_channel.proofs.round.send_pills.Given as goal

-- after each pill the sender is still of its channel
abbrev pub invariant-loop : goal.invariant-loop
invariant-loop g l = AreOfOneChannel l.initial.sender.end l.sender.end
