use Rattle.mb_mailbox.specs.Producers.{IsProducerOf}
use Rattle.example_jobs.proofs.crew.put_jobs.Given as goal

-- after each put the producer is still one of the mailbox
abbrev pub invariant-loop-job : goal.invariant-loop-job
invariant-loop-job l = IsProducerOf l.mailbox l.producer
