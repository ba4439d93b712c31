use Rattle.mb_channel.specs.Ends.{AreOfOneChannel}
use Rattle.test_channels.proofs.closing.send_all.Given as goal

abbrev pub invariant-loop-value : goal.invariant-loop-value
invariant-loop-value g l = AreOfOneChannel l.initial.sender.end l.sender.end
