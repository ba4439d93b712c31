use Rattle.std.proofs.Common.{◌≡◌, ◌∙◌, [], ◌∷◌, true, false, not, ap, arith, refl}
use Rattle.std.specs.Option.{is_some}
use Rattle.std.specs.Prelude.{Option, Some, None}
use Rattle.mb_mailbox.specs.Gathering.{count_missing}
use Rattle.mb_mailbox.proofs.Listed.{count_more}
use Rattle.mb_mailbox.proofs.gather.missing.Goals as goal
use Rattle.mb_mailbox.proofs.gather.missing.Goals.{then-is_none, else-is_none}

-- one that was not returned counts 1 as missing, and by `one_there` one that was returned counts 0
one_missing : {X : Type 0} (x : Option X) → is_some x ≡ false → count_missing (x ∷ []) ≡ 1
one_missing None e = refl
one_missing (Some x) e = absurd (cc)

one_there : {X : Type 0} (x : Option X) → is_some x ≡ true → count_missing (x ∷ []) ≡ 0
one_there None e = absurd (cc)
one_there (Some x) e = refl

pub loop-one-preserved : goal.loop-one-preserved
loop-one-preserved g c =
    let more = count_more c.args.given.now c.loop-one.one-index c.one-item.result c.loop-one-test.true c.one-item.is in
    let old = c.loop-one.invariant.count in
    let few = c.loop-one.invariant.few in
    elim c.if-is_none.branch [
      | then-is_none w ↦
          let here = one_missing c.one-item.result (c.is_none.ensures ∙ ap not w.if-is_none.true) in
          let is = w.count-is in
          record { count = omega (arith, more, old, here, is); few = omega (arith, few, is) }
      | else-is_none w ↦
          let here = one_there c.one-item.result (c.is_none.ensures ∙ ap not w.if-is_none.false) in
          let is = w.count-is in
          record { count = omega (arith, more, old, here, is); few = omega (arith, few, is) }
    ]
