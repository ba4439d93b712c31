use Rattle.std.proofs.Common.{◌≡◌, ◌∙◌, ◌≤◌, None, Some, ap, subst, sym}
use Rattle.std.specs.Prelude.{slice_get, slice_set}
use Rattle.mb_shared_cells.specs.Vocabulary.{CellHubView, CellsName, roll_with_part}
use Rattle.mb_shared_claims.specs.Vocabulary.{HubView as ClaimHubView}
use Rattle.mb_mailbox.specs.Imports.{claims_at, Reader}
use Rattle.mb_mailbox.specs.Consumers.{ConsumerView}
use Rattle.mb_mailbox.specs.Mailboxes.{MailboxView}
use Rattle.mb_mailbox.specs.Hubs.{HubView, IsHub, with_taken_consumer}
use Rattle.mb_mailbox.specs.Pursuits.{with_fields}
use Rattle.mb_mailbox.proofs.HubMoves.{seat_is_out, took_consumer}
use Rattle.mb_mailbox.proofs.hub.Hub.take_consumer.{Given.Over, Goals.After-take_in}
use Rattle.mb_mailbox.proofs.hub.Hub.take_consumer.Goals as goal

module _ (g : Over) (c : After-take_in g) where
  -- `h` is the hub before the call, `s` the consumer, and `left` the hub after the call, each by its fields
  abbrev h : HubView
  h = record {
    cells = c.self.inside.cells;
    claims = c.self.inside.claims;
    puts = c.self.inside.puts.items;
    records = c.self.inside.records.items;
  }

  abbrev s : ConsumerView
  s = with_fields c.consumer.inside.fields

  abbrev left : HubView
  left = record {
    cells = c.take_reader.new.hub;
    claims = c.take_in.new.hub;
    puts = h.puts;
    records = slice_set h.records c.consumer-number.result
        (Some (record { places = s.places; notes = c.trim.new.self.lists }));
  }

  table : h.cells.table ≡ c.mailbox.inside.cells
  table =
      ap (λ (v : HubView). v.cells.table) c.self.view_is ∙ c.requires.hub.cells
      ∙ sym (ap (λ (m : MailboxView). m.cells) c.mailbox.view_is)

  cells : c.take_reader.new.hub ≡ (with_taken_consumer s h).cells
  cells =
      c.take_reader.ensures.hub ∙ ap (λ (t : CellsName). record {
        table = t;
        roll = roll_with_part (Reader s.reader.reader) s.reader.part h.cells.roll;
      }) (sym table)

  -- the call leaves `with_taken_consumer s h`. The put lists are those of h
  is : left ≡ with_taken_consumer s h
  is = λ j. record {
    cells = cells j;
    claims = c.take_in.ensures.hub j;
    puts = h.puts;
    records = slice_set h.records (c.consumer-number.ensures.exact j)
        (Some (record { places = s.places; notes = c.trim.ensures j }));
  }

pub invariant_of-self : goal.invariant_of-self
invariant_of-self g c =
    let at = (goal.at.invariant_of-self g c).After-take_in in
    let same : (s g at).seat.table ≡ (h g at).claims.table =
    ap (λ (v : ConsumerView). v.seat.table) c.consumer.view_is ∙ c.requires.consumer.claims
    ∙ sym (c.requires.hub.claims) ∙ sym (ap (λ (v : HubView). v.claims.table) c.self.view_is) in
    let read : (s g at).reader.table ≡ (h g at).cells.table =
    ap (λ (v : ConsumerView). v.reader.table) c.consumer.view_is ∙ c.requires.consumer.cells
    ∙ sym (c.requires.hub.cells) ∙ sym (ap (λ (v : HubView). v.cells.table) c.self.view_is) in
    let took = took_consumer (h g at) (s g at) c.self.invariant.0 c.consumer.invariant.0 same read
    c.take_reader.ensures.was_out c.take_in.ensures.was_out in (
      subst IsHub (sym (is g at)) took,
      subst (λ (t : CellHubView). t.table.size.lanes ≤ c.self.inside.puts.cap) (sym (cells g at)) c.self.invariant.1,
      subst (λ (t : ClaimHubView). (claims_at t.table).table.values ≤ c.self.inside.records.cap)
          (sym c.take_in.ensures.hub) c.self.invariant.2,
    )

pub returns-clause-hub : goal.returns-clause-hub
returns-clause-hub g c =
    is g (goal.at.returns-clause-hub g c).After-take_in
    ∙ (λ j. with_taken_consumer (c.consumer.view_is j) (c.self.view_is j))

pub returns-clause-was_out : goal.returns-clause-was_out
returns-clause-was_out g c =
    let at = (goal.at.returns-clause-was_out g c).After-take_in in
    subst (λ (z : HubView × ConsumerView). slice_get z.0.records z.1.seat.consumer ≡ Some None)
    (λ j. (c.self.view_is j, c.consumer.view_is j))
    (seat_is_out (h g at) (s g at).seat.consumer c.self.invariant.0 c.take_in.ensures.was_out)
