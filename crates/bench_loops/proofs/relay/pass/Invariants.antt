use Rattle.mb_mailbox.specs.Consumers.{IsConsumerOf}
use Rattle.mb_mailbox.specs.Producers.{IsProducerOf}
use Rattle.bench_loops.proofs.relay.pass.Given as goal

-- after each item the producer and the consumer are still of the mailbox
abbrev pub invariant-loop-item : goal.invariant-loop-item
invariant-loop-item g l = record {
  producer : IsProducerOf l.mailbox l.producer;
  consumer : IsConsumerOf l.mailbox l.consumer;
}
