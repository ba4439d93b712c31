use Rattle.mb_mailbox.specs.Hubs.{IsHubOf}
use Rattle.test_stress.proofs.refused.count_left.Given as goal

-- after each producer issued and returned the hub is still the mailbox's
abbrev pub invariant-loop-count : goal.invariant-loop-count
invariant-loop-count l = IsHubOf l.mailbox l.hub
