use Rattle.std.proofs.Common.{sym, ap, ◌∙◌, subst}
use Rattle.mb_channel.specs.declared.view.Knows.{Knows}
use Rattle.mb_channel.specs.Lengths.{HasSummed}
use Rattle.mb_channel.proofs.Lengths.{told_nothing, told_there}
use Rattle.mb_channel.proofs.list.List.len.Goals as goal

pub waiting-found-requires-clause-homes : goal.waiting-found-requires-clause-homes
waiting-found-requires-clause-homes g c = let x = c.try_lock.ensures.locked c.if-not-try_lock.false in
    (x.0, x.1, x.2, x.3, sym (ap (λ (v : Knows _). v.before) x.4.1))

pub give_length-requires-clause-held : goal.give_length-requires-clause-held
give_length-requires-clause-held g c = let x = c.try_lock.ensures.locked c.if-not-try_lock.false in
    let same = c.waiting-found.ensures.view ∙ x.4.1 in
    (ap (λ (v : Knows _). v.live) same ∙ c.requires.ready.0, ap (λ (v : Knows _). v.holds) same)

pub give_length-requires-clause-waiting : goal.give_length-requires-clause-waiting
give_length-requires-clause-waiting g c = subst (λ (v : Knows _). HasSummed v.before c.waiting-found.result
    c.waiting-found.new.chair.me.1) (sym c.waiting-found.ensures.view) c.waiting-found.ensures.looked

pub returns-then-not-try_lock : goal.returns-then-not-try_lock
returns-then-not-try_lock g c = record {
  told = told_nothing c.args.chair.now c.try_lock.new.chair c.try_lock.ensures.list
      (c.try_lock.ensures.missed c.if-not-try_lock.true);
}

pub returns : goal.returns
returns g c = let x = c.try_lock.ensures.locked c.if-not-try_lock.false in
    let a = c.give_length.ensures.list in
    let b = c.waiting-found.ensures.list in
    let d = c.try_lock.ensures.list in record {
      told = told_there c.waiting-found.result x.2 c.args.chair.now c.give_length.new.chair
          c.waiting-found.new.chair.me.0 (a.0 ∙ b.0 ∙ d.0, a.1 ∙ b.1 ∙ d.1) c.requires.ready
          (c.waiting-found.ensures.view ∙ x.4.1) c.give_length.ensures.told;
    }
