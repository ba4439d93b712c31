-- The ends of workers are of one channel.
use Rattle.mb_channel.specs.declared.end.End.{End}
use Rattle.mb_channel.specs.declared.end.Receiver.{Receiver}
use Rattle.mb_channel.specs.Ends.{AreOfOneChannel}
use Rattle.test_channel.specs.declared.draws.Sent.{Sent}
use Rattle.test_channel.specs.declared.receiving.Receiving.{Receiving}
use Rattle.test_channel.specs.declared.sending.Sending.{Sending}

abbrev pub IsSending : End Sent → Sending → Type 0
IsSending e w = AreOfOneChannel e w.keeper.end

abbrev pub IsReceiving : End Sent → Receiving → Type 0
IsReceiving e w = AreOfOneChannel e w.receiver.end

abbrev pub IsThere : End Sent → Receiver Sent → Type 0
IsThere e r = AreOfOneChannel e r.end
