use Rattle.mb_mailbox.specs.Hubs.{IsHubOf}
use Rattle.bench_loops.proofs.mailbox.read_all.Given as goal

-- after each consumer that was issued the hub is still the mailbox's
abbrev pub invariant-loop : goal.invariant-loop
invariant-loop g l = IsHubOf l.mailbox l.hub
