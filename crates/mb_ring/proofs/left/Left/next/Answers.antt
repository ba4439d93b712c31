use Rattle.std.proofs.Common.{List, arith, subst, sym, ◌∙◌, suc, ℕ, ap, ◌+◌, ◌≡◌, ◌%◌}
use Rattle.std.specs.Prelude.{None, Option, slice_set}
use Rattle.std.specs.Mem.Slots.{slots_items}
use Rattle.mb_ring.specs.Vocabulary.{Stand}
use Rattle.mb_ring.proofs.Endings.{first_left, stand_after}
use Rattle.mb_ring.proofs.left.Left.next.Goals as goal

pub returns-clause-some : goal.returns-clause-some
returns-clause-some g c x xs left =
    let me = c.args.self.now in
    let items = slots_items me.closed.slots in
    let n = me.size in
    let at = me.at in
    let set_ : slots_items c.put.new.self ≡ slice_set items (at % n) None
    = c.put.ensures.items ∙ ap (λ l. slice_set l (at % n) None) c.take-value.ensures.items in
    let next_ : suc at ≡ at + 1 = omega arith in
    let count = left.1 in
    let few = me.within in (
      first_left n items at x xs c.take-value.result left.0 c.take-value.ensures.value,
      (
        subst (λ (l : List (Option g.row.T.Denot)). Stand n l (at + 1) xs) (sym set_)
            (subst (λ (q : ℕ). Stand n (slice_set items (at % n) None) q xs) next_
            (stand_after n items at (suc at) None xs (omega arith) (omega arith) left.0.1)),
        omega arith,
      ),
    )
