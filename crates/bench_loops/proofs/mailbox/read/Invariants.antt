use Rattle.mb_mailbox.specs.Consumers.{IsConsumerOf}
use Rattle.bench_loops.proofs.mailbox.read.Given as goal

-- after each poll the consumer is still one of the mailbox
abbrev pub invariant-loop : goal.invariant-loop
invariant-loop g l = IsConsumerOf l.mailbox l.consumer
