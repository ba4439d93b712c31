-- Proof of `item_list`, which returns the items of producer `p`, in the order in which it puts them.
use Rattle.std.proofs.Common.{◌∙◌}
use Rattle.mb_program.proofs.RunItems.{items_more}
use Rattle.mb_program.proofs.run.item_list.Goals as goal

pub loop-i-preserved : goal.loop-i-preserved
loop-i-preserved g c = c.in_ok-push.ensures.items ∙ items_more c.args.p c.loop-i.i _ c.loop-i.invariant
