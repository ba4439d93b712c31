use Rattle.std.proofs.Common.{sym, ap, length, subst, inl, inr, ◌∙◌}
use Rattle.mb_channel.specs.declared.view.Knows.{Knows}
use Rattle.mb_channel.specs.Homes.{Longer}
use Rattle.mb_channel.proofs.Freed.{of_either}
use Rattle.mb_channel.proofs.list.List.tell.Goals as goal

pub tell_last-requires-clause-homes : goal.tell_last-requires-clause-homes
tell_last-requires-clause-homes g c = let y = c.requires.homes in (
  y.0,
  c.sees_closed.ensures.held ∙ y.1,
  y.2,
  y.3,
  y.4 ∙ sym (ap (λ (v : Knows _). v.before) (c.sees_closed.ensures.closed c.if-sees_closed.true)),
)

pub tell_last-requires-then-sees_no_sender-clause-homes : goal.tell_last-requires-then-sees_no_sender-clause-homes
tell_last-requires-then-sees_no_sender-clause-homes g c = let y = c.requires.homes in (
  y.0,
  c.sees_no_sender.ensures.held ∙ c.sees_closed.ensures.held ∙ y.1,
  y.2,
  y.3,
  y.4 ∙ sym (ap (λ (v : Knows _). v.before) (c.sees_no_sender.ensures.none c.if-sees_no_sender.true).0
      ∙ ap (λ (v : Knows _). v.before) (c.sees_closed.ensures.open_ c.if-sees_closed.false)),
)

pub sees_no_sender-requires-clause-last : goal.sees_no_sender-requires-clause-last
sees_no_sender-requires-clause-last g c = let same = c.sees_closed.ensures.open_ c.if-sees_closed.false in (
  ap (λ (v : Knows _). v.holds) same ∙ c.requires.held.1,
  ap (λ (v : Knows _). length v.before) same ∙ c.requires.last.0 ∙ sym c.requires.last.1
      ∙ sym (ap (λ (v : Knows _). v.at) same),
)

pub unlock-requires-clause-homes : goal.unlock-requires-clause-homes
unlock-requires-clause-homes g c = let y = c.requires.homes in (
  y.0,
  c.sees_no_sender.ensures.held ∙ c.sees_closed.ensures.held ∙ y.1,
  y.2,
  y.3,
  inl (y.4 ∙ sym (ap (λ (v : Knows _). v.before) (c.sees_no_sender.ensures.some c.if-sees_no_sender.false)
      ∙ ap (λ (v : Knows _). v.before) (c.sees_closed.ensures.open_ c.if-sees_closed.false))),
)

pub add_home-added-requires-clause-homes : goal.add_home-added-requires-clause-homes
add_home-added-requires-clause-homes g c = let y = c.requires.homes in (
  y.0,
  c.sees_no_sender.ensures.held ∙ c.sees_closed.ensures.held ∙ y.1,
  y.2,
  y.3,
  y.4 ∙ sym (ap (λ (v : Knows _). v.before) (c.sees_no_sender.ensures.some c.if-sees_no_sender.false)
      ∙ ap (λ (v : Knows _). v.before) (c.sees_closed.ensures.open_ c.if-sees_closed.false)),
)

pub unlock-requires-2-clause-homes : goal.unlock-requires-2-clause-homes
unlock-requires-2-clause-homes g c =
    let now = c.add_home-added.ensures.view in
    let same = now ∙ c.sees_no_sender.ensures.some c.if-sees_no_sender.false in
    let saw = c.sees_closed.ensures.open_ c.if-sees_closed.false in
    let before = ap (λ (v : Knows _). v.before) (sym now) in
    of_either _ _ _ c.add_home-added.result c.add_home-added.ensures.added c.add_home-added.ensures.refused
    (λ y. (
      y.0,
      y.1,
      y.2,
      y.3,
      inr (
        ap (λ (v : Knows _). v.may_add) same ∙ ap (λ (v : Knows _). v.is_open) saw ∙ c.requires.held.1,
        ap (λ (v : Knows _). v.orderly) same ∙ ap (λ (v : Knows _). v.orderly) saw ∙ c.requires.last.2,
        subst (λ n. Longer n c.add_home-added.new.chair.me.0.before y.2) (sym (ap (λ (v : Knows _). v.at) same
            ∙ ap (λ (v : Knows _). v.at) saw ∙ c.requires.last.1))
            (subst (λ l. Longer c.args.at l y.2) before y.4),
      ),
    ))
    (λ y. (y.0, y.1, y.2, y.3, inl (y.4 ∙ before)))
