-- Proof of `item_lists`, which returns the items of all producers, one list for each.
use Rattle.std.proofs.Common.{◌+◌, ◌∙◌, ap, ℕ}
use Rattle.mb_mailbox.specs.Worked.{lists_in}
use Rattle.mb_program.proofs.RunItems.{lists_more}
use Rattle.mb_program.proofs.run.item_lists.Goals as goal

pub loop-p-preserved : goal.loop-p-preserved
loop-p-preserved g c = (
  ap lists_in c.in_ok-push.ensures.items ∙ lists_more c.loop-p.p c.args.items c.loop-p.lists.items
      c.in_ok-item_list.field-0 c.loop-p.invariant.0 c.in_ok-item_list.ensures,
  c.in_ok-push.ensures.len ∙ ap (λ (n : ℕ). n + 1) c.loop-p.invariant.1,
)
