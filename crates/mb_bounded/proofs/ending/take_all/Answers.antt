use Rattle.std.proofs.Common.{ap, subst, sym, ◌≡◌, ◌∙◌}
use Rattle.mb_ring.specs.Vocabulary.{hub_view, took_back}
use Rattle.mb_bounded.specs.Types.{Seat, View}
use Rattle.mb_bounded.specs.declared.end.Past.{Past}
use Rattle.mb_bounded.proofs.Endings.{Taking, last_of, takes_one}
use Rattle.mb_bounded.proofs.ending.take_all.Goals as goal

pub loop-past-preserved : goal.loop-past-preserved
loop-past-preserved g c =
    let i = c.loop-past.invariant in
    let all = c.loop-past.others.items in
    let rest = c.pop.new.self.items in
    let hub = hub_view c.loop-past.hub in
    let e = c.in-Some.ensures.items in
    let l = last_of (λ (p : Past _). p.pass.seat.table_id ≡ c.args.ring.now.table.shared.table_id) all rest
    c.in-Some.past e i.1 in (
      c.take_back.ensures.ring ∙ i.0,
      l.0,
      subst (λ (w : View _). Taking (hub_view c.args.hub.now) c.args.others.items w rest)
          (sym (c.take_back.ensures.hub ∙ ap (λ (s : Seat _ _). took_back hub s.me.0) c.pass.ensures.same))
          (takes_one (hub_view c.args.hub.now) hub c.args.others.items all rest c.in-Some.past e i.2),
    )
