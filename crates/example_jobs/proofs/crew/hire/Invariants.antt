use Rattle.std.specs.Prelude.{All}
use Rattle.mb_mailbox.specs.Hubs.{IsHubOf}
use Rattle.example_jobs.specs.Crew.{IsOf}
use Rattle.example_jobs.proofs.crew.hire.Given as goal

-- after each producer hired the hub is still the mailbox's, and so are the producers hired so far
abbrev pub invariant-loop-number : goal.invariant-loop-number
invariant-loop-number g l = record { hub : IsHubOf l.mailbox l.hub; crew : All (IsOf l.mailbox) l.crew.items }

-- after each worker hired the hub is still the mailbox's, and so are the producers and consumers hired so far
abbrev pub invariant-loop-worker : goal.invariant-loop-worker
invariant-loop-worker g l = record { hub : IsHubOf l.mailbox l.hub; crew : All (IsOf l.mailbox) l.crew.items }
