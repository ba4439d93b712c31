use Rattle.std.specs.Prelude.{All}
use Rattle.mb_channel.specs.Ends.{AreOfOneChannel}
use Rattle.test_channel.specs.Crew.{IsSending}
use Rattle.test_channel.proofs.crew.senders.Given as goal

-- after each worker made all ends are of the channel
abbrev pub invariant-loop-number : goal.invariant-loop-number
invariant-loop-number g l = record {
  sender : AreOfOneChannel l.initial.receiver.end l.sender.end;
  receiver : AreOfOneChannel l.initial.receiver.end l.receiver.end;
  crew : All (IsSending l.initial.receiver.end) l.crew.items;
}
