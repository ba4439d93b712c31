use Rattle.std.proofs.Common.{IfOk, subst, sym, ◌∙◌, ◌≡◌}
use Rattle.std.specs.Prelude.{All}
use Rattle.mb_channel.specs.declared.end.End.{End}
use Rattle.test_channel.specs.Crew.{IsReceiving, IsSending, IsThere}
use Rattle.test_channel.specs.declared.draws.Sent.{Sent}
use Rattle.test_channel.proofs.round.run.Goals as goal

-- the workers' ends are of the channel of the last receiver, which is the same as before
pub give_all-requires : goal.give_all-requires
give_all-requires g c =
    let back = subst (λ r. IfOk r (λ ends. (e : End Sent) → All (IsReceiving e) c.in_ok-receiving.receiving.items
    → All (IsThere e) ends.items)) c.in_ok-received.was c.join-received.ensures.first in
    record {
      ends = back c.receivers.new.receiver.end
          (c.in_ok-receiving.ensures.crew c.receivers.new.receiver.end (sym c.in_ok-receiving.ensures.receiver));
    }

pub give_all-requires-2 : goal.give_all-requires-2
give_all-requires-2 g c =
    let back = subst (λ r. IfOk r (λ ends. (e : End Sent) → All (IsSending e) c.in_ok-sending.sending.items
    → All (IsThere e) ends.items)) c.in_ok-sent.was c.join-received.ensures.second.0 in
    record {
      ends = back c.give_all.new.to.end (c.in_ok-sending.ensures.crew c.give_all.new.to.end
          (sym (c.give_all.ensures.to ∙ (c.in_ok-receiving.ensures.receiver ∙ c.in_ok-sending.ensures.receiver))));
    }
