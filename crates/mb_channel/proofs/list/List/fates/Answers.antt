use Rattle.std.proofs.Common.{sym, ap, ◌∙◌, subst}
use Rattle.mb_channel.specs.declared.view.Knows.{Knows}
use Rattle.mb_channel.specs.Fates.{HasTaken}
use Rattle.mb_channel.proofs.Audits.{after_taken, told_chair}
use Rattle.mb_channel.proofs.Lengths.{seat_is}
use Rattle.mb_channel.proofs.list.List.fates.Goals as goal

pub take_fates-taken-requires-clause-homes : goal.take_fates-taken-requires-clause-homes
take_fates-taken-requires-clause-homes g c = let x = c.try_lock.ensures.locked c.if-not-try_lock.false in
    (x.0, x.1, x.2, x.3, sym (ap (λ (v : Knows _). v.before) x.4.1))

pub give_fates-requires-clause-held : goal.give_fates-requires-clause-held
give_fates-requires-clause-held g c = let x = c.try_lock.ensures.locked c.if-not-try_lock.false in
    let same = c.take_fates-taken.ensures.view ∙ x.4.1 in
    (ap (λ (v : Knows _). v.live) same ∙ c.requires.ready.0, ap (λ (v : Knows _). v.holds) same)

pub give_fates-requires-clause-taken : goal.give_fates-requires-clause-taken
give_fates-requires-clause-taken g c = subst (λ (v : Knows _). HasTaken v.before c.take_fates-taken.result
    c.take_fates-taken.new.chair.me.1) (sym c.take_fates-taken.ensures.view) c.take_fates-taken.ensures.taken

pub returns-then-not-try_lock : goal.returns-then-not-try_lock
returns-then-not-try_lock g c = record {
  told = seat_is c.args.chair.now c.try_lock.new.chair c.try_lock.ensures.list
      (c.try_lock.ensures.missed c.if-not-try_lock.true);
}

pub returns-in-Some : goal.returns-in-Some
returns-in-Some g c = let x = c.try_lock.ensures.locked c.if-not-try_lock.false in
    let a = c.give_fates.ensures.list in
    let b = c.take_fates-taken.ensures.list in
    let d = c.try_lock.ensures.list in record {
      told = after_taken c.take_fates-taken.result x.2 c.args.chair.now c.give_fates.new.chair
          c.take_fates-taken.new.chair.me.0 (a.0 ∙ b.0 ∙ d.0, a.1 ∙ b.1 ∙ d.1) c.requires.ready
          (c.take_fates-taken.ensures.view ∙ x.4.1) c.give_fates.ensures.told
          ∙ ap (λ o. told_chair o c.args.chair.now) c.in-Some.is;
    }

pub returns-in-None : goal.returns-in-None
returns-in-None g c = let x = c.try_lock.ensures.locked c.if-not-try_lock.false in
    let a = c.give_fates.ensures.list in
    let b = c.take_fates-taken.ensures.list in
    let d = c.try_lock.ensures.list in record {
      told = after_taken c.take_fates-taken.result x.2 c.args.chair.now c.give_fates.new.chair
          c.take_fates-taken.new.chair.me.0 (a.0 ∙ b.0 ∙ d.0, a.1 ∙ b.1 ∙ d.1) c.requires.ready
          (c.take_fates-taken.ensures.view ∙ x.4.1) c.give_fates.ensures.told
          ∙ ap (λ o. told_chair o c.args.chair.now) c.in-None.is;
    }
