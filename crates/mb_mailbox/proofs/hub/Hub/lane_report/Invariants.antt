use Rattle.std.proofs.Common.{◌≡◌, not, take}
use Rattle.mb_world.specs.Theorem.{items_where}
use Rattle.mb_mailbox.specs.Gathering.{is_taken_in}
use Rattle.mb_mailbox.proofs.hub.Hub.lane_report.Given as goal

-- `left` has the items before position j that nobody took
abbrev pub invariant-loop-j : goal.invariant-loop-j
invariant-loop-j g l =
    l.left.items ≡ items_where (λ j. not (is_taken_in l.consumers l.p j l.self)) (take l.j l.items)
