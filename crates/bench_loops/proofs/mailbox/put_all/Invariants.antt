use Rattle.mb_mailbox.specs.Producers.{IsProducerOf}
use Rattle.bench_loops.proofs.mailbox.put_all.Given as goal

-- after each put the producer is still one of the mailbox
abbrev pub invariant-loop-number : goal.invariant-loop-number
invariant-loop-number g l = IsProducerOf l.mailbox l.producer
