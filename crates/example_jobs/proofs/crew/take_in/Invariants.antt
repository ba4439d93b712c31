use Rattle.std.specs.Prelude.{All}
use Rattle.mb_mailbox.specs.Hubs.{IsHubOf}
use Rattle.example_jobs.specs.Crew.{IsOf}
use Rattle.example_jobs.proofs.crew.take_in.Given as goal

-- after each member returned the hub is still the mailbox's, and so are the producers and consumers of the crew
abbrev pub invariant-loop-member : goal.invariant-loop-member
invariant-loop-member l = record { hub : IsHubOf l.mailbox l.hub; crew : All (IsOf l.mailbox) l.fn.crew.items }
