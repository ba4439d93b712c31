use Rattle.std.proofs.Common.{sym, ap, ◌∙◌, ◌≡◌, subst}
use Rattle.mb_segment.specs.Seats.{view_in as pass_view}
use Rattle.mb_channel.specs.declared.view.Knows.{Knows}
use Rattle.mb_channel.specs.Homes.{Changes, HasTakenBack, MayGive, left_segment, unlocked}
use Rattle.mb_channel.proofs.Chairs.{done_if, leaves_list}
use Rattle.mb_channel.proofs.list.List.part.Goals as goal

pub give_left-requires-clause-lawful : goal.give_left-requires-clause-lawful
give_left-requires-clause-lawful g c = let y = c.give_pass-done.ensures.homes in let h = c.requires.held in
    let view = c.give_pass-done.ensures.view in
    subst (λ a. MayGive (left_segment a c.give_pass-done.result) 1 c.give_pass-done.new.chair.id
    c.give_pass-done.new.chair.me) (sym c.requires.picked)
    (leaves_list (pass_view c.args.pass) c.give_pass-done.result 1 c.give_pass-done.new.chair.id
    c.give_pass-done.new.chair.me y.0 y.2 y.3 y.1
    (ap (λ (v : Knows _). v.live) view ∙ h.0) (ap (λ (v : Knows _). v.holds) view ∙ h.1)
    (ap (λ (v : Knows _). v.inside) view ∙ h.2)
    (subst (λ (z : Knows _). Changes z.before y.2 z.at (λ h g. HasTakenBack h g (pass_view c.args.pass)
    × (c.give_pass-done.result ≡ g.done))) (sym view)
    (subst (λ n. Changes c.args.chair.now.me.0.before y.2 n (λ h g. HasTakenBack h g (pass_view c.args.pass)
    × (c.give_pass-done.result ≡ g.done))) (sym h.3) y.4))
    (λ q. c.requires.poor (sym (ap (λ (v : Knows _). v.takes) view) ∙ q))
    (c.requires.named ∙ sym (ap (λ (v : Knows _). v.name) view)))

pub returns-clause-left : goal.returns-clause-left
returns-clause-left g c = let y = c.give_pass-done.ensures.homes in
    let e = c.give_left.ensures.view in (
      e.1,
      e.0 ∙ ap (λ (z : Knows _). left_segment g.X.Stay.knew c.give_pass-done.result (unlocked z))
          c.give_pass-done.ensures.view
          ∙ ap (λ a. left_segment a c.give_pass-done.result (unlocked c.args.chair.now.me.0)) c.requires.picked,
      done_if (pass_view c.args.pass) c.give_pass-done.result c.args.chair.now.me.0.before y.2 c.args.at y.4,
    )
