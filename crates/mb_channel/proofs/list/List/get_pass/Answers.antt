use Rattle.std.proofs.Common.{suc, sym, ap, length, ◌≡◌, ◌∙◌, ◌∷◌, ◌≤◌, subst, arith}
use Rattle.atomic_table.specs.Table.{rest}
use Rattle.mb_channel.specs.Homes.{Changes, HasIssued, Stands}
use Rattle.mb_channel.specs.Tallies.{GoesOnTo}
use Rattle.mb_channel.proofs.Chairs.{only_one, was}
use Rattle.mb_channel.proofs.Freed.{behind_all, changes_all, only_last, stands_same}
use Rattle.mb_channel.proofs.Views.{there}
use Rattle.mb_channel.proofs.list.List.get_pass.Goals as goal

pub slot_mut-homes-requires : goal.slot_mut-homes-requires
slot_mut-homes-requires g c = let t = c.requires.homes in (
  c.requires.list,
  (
    t.0,
    t.1 ∙ ap (λ l. (0, t.0) ∷ rest l)
        (sym t.1),
  ),
)

pub returns-then-at-next-clause-answer : goal.returns-then-at-next-clause-answer
returns-then-at-next-clause-answer g c = let t = c.requires.homes in let lt = c.if-at-next.true in
    let now = c.slot_mut-homes.result.now in
    let same = was c.args.chair.now.me.1 t.0 now t.1 c.slot_mut-homes.ensures.value in
    let s = subst (λ l. Stands t.2 l) (sym same) t.3 in (
      (now, only_one c.args.chair.now.me.1 t.0 now t.1, t.2, s, t.4),
      lt,
      subst (λ x. GoesOnTo c.args.takes x c.in-Some.next) t.4 (c.in-Some.ensures.1 t.2 s),
    )

pub returns-in-Some-issue-clause-answer : goal.returns-in-Some-issue-clause-answer
returns-in-Some-issue-clause-answer g c = let t = c.requires.homes in let ge = c.if-at-next.false in
    let on = c.in-Some.ensures in let i = c.in-Some-issue in
    let now = c.slot_mut-homes.result.now in
    let same = was c.args.chair.now.me.1 t.0 now t.1 c.slot_mut-homes.ensures.value in
    let s = subst (λ l. Stands t.2 l) (sym same) t.3 in
    let p = i.ensures.some in
    let ch = changes_all t.2 now c.issue.new.self c.args.at
    (λ h g. HasIssued h g i.segment i.pass) s (omega arith) p.0 i.ensures.first in (
      (
        c.issue.new.self,
        only_one c.args.chair.now.me.1 t.0 c.issue.new.self t.1,
        ch.0,
        ch.1,
        subst (λ b. Changes b ch.0 c.args.at (λ h g. HasIssued h g i.segment i.pass)) t.4 ch.2,
      ),
      p.1,
      p.2,
      λ q. subst (λ x. suc c.args.at ≡ length x) t.4 (only_last c.args.takes t.2 c.in-Some.next c.args.at q (on.1 t.2 s)
          (omega arith) (there t.2 c.args.at ch.2.0 ch.2.2)),
    )

pub returns-in-None-clause-answer : goal.returns-in-None-clause-answer
returns-in-None-clause-answer g c = let t = c.requires.homes in
    let now = c.slot_mut-homes.result.now in
    let same = was c.args.chair.now.me.1 t.0 now t.1 c.slot_mut-homes.ensures.value in
    let s = subst (λ l. Stands t.2 l) (sym same) t.3 in (
      c.issue.new.self,
      only_one c.args.chair.now.me.1 t.0 c.issue.new.self t.1,
      t.2,
      stands_same t.2 now c.issue.new.self s c.in-None.ensures.none c.in-None.ensures.first,
      t.4,
    )

pub returns-else-at-homes-clause-answer : goal.returns-else-at-homes-clause-answer
returns-else-at-homes-clause-answer g c = let t = c.requires.homes in let on = c.in-Some.ensures in
    let now = c.slot_mut-homes.result.now in
    let same = was c.args.chair.now.me.1 t.0 now t.1 c.slot_mut-homes.ensures.value in
    let s = subst (λ l. Stands t.2 l) (sym same) t.3 in (
      (now, only_one c.args.chair.now.me.1 t.0 now t.1, t.2, s, t.4),
      subst (λ l. length l ≤ c.args.at) t.4 (behind_all t.2 now c.args.at s (omega arith) (omega arith)),
    )

pub returns-in_default-clause-answer : goal.returns-in_default-clause-answer
returns-in_default-clause-answer g c = let t = c.requires.homes in
    let now = c.slot_mut-homes.result.now in
    let same = was c.args.chair.now.me.1 t.0 now t.1 c.slot_mut-homes.ensures.value in
    (now, only_one c.args.chair.now.me.1 t.0 now t.1, t.2, subst (λ l. Stands t.2 l) (sym same) t.3, t.4)
