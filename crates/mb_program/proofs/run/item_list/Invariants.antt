-- Loop invariants of `item_list`, which returns the items of producer `p`, in the order in which it puts them.
use Rattle.std.proofs.Common.{◌≡◌}
use Rattle.mb_program.specs.Running.{items_of}
use Rattle.mb_program.proofs.run.item_list.Given as goal

-- the list has the first i items of producer p
abbrev pub invariant-loop-i : goal.invariant-loop-i
invariant-loop-i g l = l.list.items ≡ items_of l.p l.i
