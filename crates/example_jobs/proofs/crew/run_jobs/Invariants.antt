use Rattle.std.specs.Prelude.{◌<◌, ◌≤◌}
use Rattle.mb_mailbox.specs.Consumers.{IsConsumerOf}
use Rattle.example_jobs.proofs.crew.run_jobs.Given as goal

-- after each poll the consumer is still one of the mailbox, `lane` is below 16, and at most a shift of jobs was run
abbrev pub invariant-loop-turn : goal.invariant-loop-turn
invariant-loop-turn l =
    record { belongs : IsConsumerOf l.mailbox l.consumer; lane : l.lane < 16; taken : l.taken ≤ l.shift }
