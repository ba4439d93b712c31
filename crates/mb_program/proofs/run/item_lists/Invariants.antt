-- Loop invariants of `item_lists`, which returns the items of all producers, one list for each.
use Rattle.std.proofs.Common.{◌≡◌}
use Rattle.std.specs.Prelude.{vec_len}
use Rattle.mb_mailbox.specs.Worked.{lists_in}
use Rattle.mb_program.specs.Running.{item_lists}
use Rattle.mb_program.proofs.run.item_lists.Given as goal

-- so far the lists are those of the first p producers
abbrev pub invariant-loop-p : goal.invariant-loop-p
invariant-loop-p g l = (lists_in l.lists.items ≡ item_lists l.p l.items) × (vec_len l.lists ≡ l.p)
