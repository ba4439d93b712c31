use Rattle.std.proofs.Common.{◌≡◌, ◌∙◌, ◌<◌, None, Some, ap, arith, subst, sym}
use Rattle.std.specs.Prelude.{slice_get, slice_set}
use Rattle.mb_cells.specs.Vocabulary.{Entry, IsLaneAfter, fetch}
use Rattle.mb_shared_cells.specs.Vocabulary.{CellHubView, CellsName, roll_with_part}
use Rattle.mb_mailbox.specs.Imports.{Has, PoolSize, Producer, linked_cells}
use Rattle.mb_mailbox.specs.Mailboxes.{MailboxView}
use Rattle.mb_mailbox.specs.Hubs.{HubView, IsHub, IsPutList, put_list_of, with_taken_producer}
use Rattle.mb_mailbox.specs.Producers.{ProducerView}
use Rattle.mb_mailbox.proofs.HubMoves.{is_out, kept_list, took_producer}
use Rattle.mb_mailbox.proofs.hub.Hub.take_producer.{Given.Over, Goals.After-take_lane}
use Rattle.mb_mailbox.proofs.hub.Hub.take_producer.Goals as goal

module _ (g : Over) (c : After-take_lane g) where
  -- `h` is the hub before the call, `s` the producer, and `left` the hub after the call, each by its fields
  abbrev h : HubView
  h = record {
    cells = c.self.inside.cells;
    claims = c.self.inside.claims;
    puts = c.self.inside.puts.items;
    records = c.self.inside.records.items;
  }

  abbrev s : ProducerView
  s = record { seat = c.producer.inside.seat; items = c.producer.inside.items.items }

  abbrev left : HubView
  left = record {
    cells = c.take_lane.new.hub;
    claims = h.claims;
    puts = slice_set h.puts c.lane-lane.result
        (Some (record { items = c.trim.new.list.items; ended = c.has_ended-ended.result }));
    records = h.records;
  }

  table : h.cells.table ≡ c.mailbox.inside.cells
  table =
      ap (λ (v : HubView). v.cells.table) c.self.view_is ∙ c.requires.hub.cells
      ∙ sym (ap (λ (m : MailboxView). m.cells) c.mailbox.view_is)

  cells : c.take_lane.new.hub ≡ (with_taken_producer s h).cells
  cells =
      c.take_lane.ensures.hub ∙ ap (λ (t : CellsName). record {
        table = t;
        roll = roll_with_part (Producer s.seat.lane) s.seat.part h.cells.roll;
      }) (sym table)

  -- the call leaves `with_taken_producer s h`. Claims and records are those of h
  is : left ≡ with_taken_producer s h
  is = λ j. record {
    cells = cells j;
    claims = h.claims;
    puts = slice_set h.puts (c.lane-lane.ensures j)
        (Some (record { items = c.trim.ensures j; ended = c.has_ended-ended.ensures j }));
    records = h.records;
  }

pub invariant_of-self : goal.invariant_of-self
invariant_of-self g c =
    let at = (goal.at.invariant_of-self g c).After-take_lane in
    let s = s g at in
    let pool = c.has_history.ensures.history.0 in
    let lawful = c.has_history.ensures.history.1 in
    let part_is = c.has_history.ensures.history.2 in
    let place = subst (λ d. IsLaneAfter s.seat.table.size.cells s.seat.lane s.seat.place d)
    (sym part_is) c.has_history.ensures.place in
    let linked : (e : Entry) → Has s.seat.part (fetch s.seat.lane e) → e.cell < s.seat.table.size.cells
    → Has (linked_cells s.seat.lane s.seat.part) e.cell =
    (λ e has low. subst (λ ks. Has ks e.cell)
    (c.parts_tell_lanes.ensures.linked pool s.seat.lane ∙ ap (linked_cells s.seat.lane) part_is)
    (c.lanes_share_cells.ensures.idle s.seat.table.size pool s.seat.lane s.seat.place e lawful place
    c.producer.invariant.0.idle
    (c.parts_have_accesses.ensures.only pool (Producer s.seat.lane) (fetch s.seat.lane e)
    (subst (λ d. Has d (fetch s.seat.lane e)) (sym part_is) has)).0 low)) in
    let size : s.seat.table.size ≡ (h g at).cells.table.size =
    ap (λ (v : ProducerView). v.seat.table.size) c.producer.view_is
    ∙ ap (λ (t : CellsName). t.size) c.requires.producer.table
    ∙ sym (ap (λ (m : MailboxView). m.cells.size) c.mailbox.view_is)
    ∙ sym (ap (λ (t : CellsName). t.size) (table g at)) in
    let own = kept_list s c.producer.invariant.0 linked in
    let took = took_producer (h g at) s c.self.invariant.0
    (subst (λ (z : PoolSize). IsPutList z.cells s.seat.lane s.seat.part (put_list_of s)) size own)
    c.take_lane.ensures.was_out in
    let lanes : c.take_lane.new.hub.table.size.lanes
    ≡ (h g at).cells.table.size.lanes = ap (λ (v : CellHubView). v.table.size.lanes) (cells g at) in
    let wide = c.self.invariant.1 in
    (subst IsHub (sym (is g at)) took, omega arith, c.self.invariant.2)

pub returns-clause-was_out : goal.returns-clause-was_out
returns-clause-was_out g c =
    let at = (goal.at.returns-clause-was_out g c).After-take_lane in
    subst (λ (z : HubView × ProducerView). slice_get z.0.puts z.1.seat.lane ≡ Some None)
    (λ j. (c.self.view_is j, c.producer.view_is j))
    (is_out (h g at) (s g at).seat.lane c.self.invariant.0 c.take_lane.ensures.was_out)

pub returns-clause-hub : goal.returns-clause-hub
returns-clause-hub g c =
    is g (goal.at.returns-clause-hub g c).After-take_lane
    ∙ (λ j. with_taken_producer (c.producer.view_is j) (c.self.view_is j))
