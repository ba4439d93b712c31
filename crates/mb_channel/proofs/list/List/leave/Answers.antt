use Rattle.std.proofs.Common.{sym, ap, ◌∙◌}
use lib.ListN.{get_elem?}
use Rattle.mb_segment.specs.Seats.{view_in as pass_view}
use Rattle.mb_channel.specs.declared.view.Knows.{Knows}
use Rattle.mb_channel.specs.Homes.{left_segment, unlocked}
use Rattle.mb_channel.proofs.Chairs.{pass_here}
use Rattle.mb_channel.proofs.list.List.leave.Goals as goal

pub part-requires-clause-held : goal.part-requires-clause-held
part-requires-clause-held g c = let x = c.try_lock.ensures.locked c.if-not-try_lock.false in
    let h = c.requires.here in (
      ap (λ (v : Knows _). v.live) x.4.1 ∙ c.requires.ready.0,
      ap (λ (v : Knows _). v.holds) x.4.1,
      ap (λ (v : Knows _). v.inside) x.4.1 ∙ h.1,
      ap (λ (v : Knows _). v.at) x.4.1 ∙ h.0,
    )

pub part-requires-clause-homes : goal.part-requires-clause-homes
part-requires-clause-homes g c = let x = c.try_lock.ensures.locked c.if-not-try_lock.false in
    (x.0, x.1, x.2, x.3, sym (ap (λ (v : Knows _). v.before) x.4.1))

pub part-requires-clause-segment : goal.part-requires-clause-segment
part-requires-clause-segment g c = let x = c.try_lock.ensures.locked c.if-not-try_lock.false in
    let h = c.requires.here in
    let found = x.4.0.1 h.1 in
    let a = pass_here x.2 c.args.chair.now.me.0 c.args.pass found.0 found.1 c.requires.pass.0 in (
      a.0,
      ap (λ l. get_elem? l c.args.at) (ap (λ (v : Knows _). v.before) x.4.1) ∙ ap (get_elem? x.2)
          (sym h.0) ∙ a.1,
      a.2,
    )

pub part-requires-clause-poor : goal.part-requires-clause-poor
part-requires-clause-poor g c = let x = c.try_lock.ensures.locked c.if-not-try_lock.false in
    λ q. c.requires.poor (sym (ap (λ (v : Knows _). v.takes) x.4.1) ∙ q)

pub returns-clause-left : goal.returns-clause-left
returns-clause-left g c = let x = c.try_lock.ensures.locked c.if-not-try_lock.false in let e = c.part.ensures.left in (
  e.0,
  e.1 ∙ ap (λ (z : Knows _). left_segment (pass_view c.args.pass) c.part.result (unlocked z)) x.4.1,
  e.2,
)

pub part-requires-clause-named : goal.part-requires-clause-named
part-requires-clause-named g c = let x = c.try_lock.ensures.locked c.if-not-try_lock.false in
    c.requires.named ∙ sym (ap (λ (v : Knows _). v.name) x.4.1)
