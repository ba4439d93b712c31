-- What the loop of `Consumer::take` keeps: each poll so far lost its item.
use Rattle.std.proofs.Common.{◌≡◌, ◌+◌, ◌<◌, ℕ, List}
use Rattle.mb_mailbox.specs.Consumers.{IsConsumerOf}
use Rattle.mb_mailbox.specs.Jobs.{accesses_made}
use Rattle.mb_mailbox.specs.Takes.{HasPassed}
use Rattle.mb_mailbox.proofs.consumer.Consumer.take.Given as goal

abbrev pub decreases-items : goal.decreases-items
decreases-items g l = l.left

-- the polls so far lost items to these winners, and left `left` of the budget. Consumer and lane are the mailbox's
abbrev pub invariant-items : goal.invariant-items
invariant-items g l = record {
  winners : List ℕ;
  passed : HasPassed l.lane l.most winners (g.R.Rng.stream l.fn.rng) (g.R.Rng.stream l.rng) l.fn.self l.self;
  rest : accesses_made l.self + l.left ≡ accesses_made l.fn.self + l.most;
  all_of : IsConsumerOf l.mailbox l.self;
  lane : l.lane < l.mailbox.cells.size.lanes;
}
