-- What the loop of `pass` keeps. It is said of the consumer with the cursor as its place on the lane.
use Rattle.std.proofs.Common.{◌≡◌, ◌≤◌}
use Rattle.mb_mailbox.specs.ConsumerWords.{with_fields}
use Rattle.mb_mailbox.proofs.Takes.{HasPassedTo, rest_of}
use Rattle.mb_mailbox.proofs.consumer.passing.pass.Given as goal

abbrev pub decreases-items : goal.decreases-items
decreases-items g l = l.more

-- the polls so far lost their items, and what they left of the budget is enough for `more` losses. The number in the
-- variable is the consumer's
abbrev pub invariant-items : goal.invariant-items
invariant-items g l =
    HasPassedTo l.mailbox l.lane l.fn.left (g.R.Rng.stream l.fn.rng) (g.R.Rng.stream l.rng)
    (with_fields l.fn.fields) l.at l.fields (rest_of l.fn.left l.most l.more)
    × (l.more ≤ l.most) × (l.number ≡ l.fields.seat.consumer)
