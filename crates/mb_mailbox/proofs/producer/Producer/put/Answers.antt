use Rattle.std.proofs.Common.{List, ◌≡◌, ℕ, ap, arith, subst, sym}
use Rattle.mb_mailbox.specs.Imports.{CellsName}
use Rattle.mb_mailbox.specs.Producers.{IsProducer, IsPutInto, ProducerView}
use Rattle.mb_mailbox.proofs.Putting.{producer_at}
use Rattle.mb_mailbox.proofs.producer.Producer.put.Goals as goal

-- each proof uses the law on an offer that returned a cell and two pushes. `s` is the producer before them
pub push_reserved-requires : goal.push_reserved-requires
push_reserved-requires g c =
    let s = producer_at c.self.inside.seat c.self.inside.items.items in
    let room = c.producers_move_on.ensures.room s c.args.x c.in-Cell.field-0 c.push.result
    c.push-in-Cell.result c.offer.new.seat c.push.new.seat c.push-in-Cell.new.seat
    c.self.invariant.0 c.in-Cell.ensures.makes c.push.ensures.makes
    c.push-in-Cell.ensures.makes in
    let wide = c.self.invariant.1 in
    let len = c.self.inside.items.ok.0 in
    omega arith

pub invariant_of-self : goal.invariant_of-self
invariant_of-self g c =
    let s = producer_at c.self.inside.seat c.self.inside.items.items in
    let kept = c.producers_move_on.ensures.kept s c.args.x c.in-Cell.field-0 c.push.result
    c.push-in-Cell.result c.offer.new.seat c.push.new.seat c.push-in-Cell.new.seat
    c.self.invariant.0 c.in-Cell.ensures.makes c.push.ensures.makes
    c.push-in-Cell.ensures.makes in
    let linked = c.producers_move_on.ensures.linked s c.args.x c.in-Cell.field-0 c.push.result
    c.push-in-Cell.result c.offer.new.seat c.push.new.seat c.push-in-Cell.new.seat
    c.self.invariant.0 c.in-Cell.ensures.makes c.push.ensures.makes
    c.push-in-Cell.ensures.makes in
    let cells : c.push-in-Cell.new.seat.table.size.cells
    ≡ s.seat.table.size.cells = ap (λ (t : CellsName). t.size.cells) linked.same.table in
    let wide = c.self.invariant.1 in
    let cap = c.push_reserved.ensures.capacity in (
      subst (λ (l : List ℕ). IsProducer (producer_at c.push-in-Cell.new.seat l))
          (sym c.push_reserved.ensures.items) kept,
      omega arith,
    )

pub returns-in-Cell-clause-linked : goal.returns-in-Cell-clause-linked
returns-in-Cell-clause-linked g c = λ done.
    let k = c.in-Cell.field-0 in
    let now = c.push-in-Cell.new.seat in
    let s = producer_at c.self.inside.seat c.self.inside.items.items in
    let linked = c.producers_move_on.ensures.linked s c.args.x k c.push.result c.push-in-Cell.result c.offer.new.seat
    c.push.new.seat now c.self.invariant.0 c.in-Cell.ensures.makes c.push.ensures.makes
    c.push-in-Cell.ensures.makes in (
      k,
      subst (λ (o : ProducerView). IsPutInto k c.args.x o
          (producer_at now c.push_reserved.new.self.items)) c.self.view_is
          (subst (λ (l : List ℕ). IsPutInto k c.args.x s (producer_at now l))
          (sym c.push_reserved.ensures.items) linked),
    )
