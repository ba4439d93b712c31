use Rattle.std.specs.Prelude.{All}
use Rattle.mb_channel.specs.Ends.{AreOfOneChannel}
use Rattle.test_channel.specs.Crew.{IsReceiving}
use Rattle.test_channel.proofs.crew.receivers.Given as goal

-- after each worker made all ends are of the channel
abbrev pub invariant-loop-number : goal.invariant-loop-number
invariant-loop-number g l = record {
  receiver : AreOfOneChannel l.initial.receiver.end l.receiver.end;
  crew : All (IsReceiving l.initial.receiver.end) l.crew.items;
}
