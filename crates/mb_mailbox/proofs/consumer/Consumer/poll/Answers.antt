-- Proof of `Consumer::poll`: a poll of a lane that there is, or `NoLane`.
use Rattle.std.proofs.Common.{subst}
use Rattle.mb_mailbox.specs.Came.{PollCameTo}
use Rattle.mb_mailbox.proofs.consumer.Consumer.poll.Goals as goal

pub returns-in-Some-clause-came : goal.returns-in-Some-clause-came
returns-in-Some-clause-came g c =
    subst (λ q. PollCameTo c.args.mailbox.now q c.args.budget c.poll_rest.result (g.R.Rng.stream c.args.rng.now)
    (g.R.Rng.stream c.poll_rest.new.rng) c.args.self.now c.poll_rest.new.self) c.in-Some.ensures.some.0
    c.poll_rest.ensures.came
