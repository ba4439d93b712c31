use Rattle.std.proofs.Common.{[], ◌≡◌, ◌∙◌, ◌≤◌, ◌<◌, ℕ, ap, arith, length, subst, sym}
use Rattle.mb_shared_cells.specs.Vocabulary.{CellHubView, CellsName, roll_with_reader}
use Rattle.mb_shared_claims.specs.Vocabulary.{HubView as ClaimHubView}
use Rattle.mb_mailbox.specs.Imports.{ClaimTable, ReaderSeatView, claims_at, consumer_count, name_of}
use Rattle.mb_mailbox.specs.Consumers.{IsConsumer}
use Rattle.mb_mailbox.specs.Mailboxes.{MailboxView}
use Rattle.mb_mailbox.specs.Hubs.{HubView, IsHub, IsNewConsumer, with_consumer}
use Rattle.mb_mailbox.proofs.Made.{at_views}
use Rattle.mb_mailbox.proofs.HubMoves.{issued_consumer}
use Rattle.mb_mailbox.proofs.NewConsumer.{is_new, new_reader, new_seat}
use Rattle.mb_mailbox.proofs.hub.Hub.consumer.Goals as goal

-- Each proof begins with the same terms: the hub h and the mailbox m by their fields, whose tables are the same
-- (`table`, `claims`), and the new seats `reader` and `seat`
pub invariant_of-result : goal.invariant_of-result
invariant_of-result g c =
    let h : HubView = record {
      cells = c.self.inside.cells;
      claims = c.self.inside.claims;
      puts = c.self.inside.puts.items;
      records = c.self.inside.records.items;
    } in
    let m : MailboxView = record { cells = c.mailbox.inside.cells; claims = c.mailbox.inside.claims } in
    let table : h.cells.table ≡ m.cells =
    ap (λ (v : HubView). v.cells.table) c.self.view_is ∙ c.requires.belongs.cells
    ∙ sym (ap (λ (v : MailboxView). v.cells) c.mailbox.view_is) in
    let claims : h.claims.table ≡ name_of m.claims =
    ap (λ (v : HubView). v.claims.table) c.self.view_is ∙ c.requires.belongs.claims
    ∙ sym (ap (λ (v : MailboxView). name_of v.claims) c.mailbox.view_is) in
    let i = c.self.invariant.0 in
    let n = length h.records in
    let reader : c.enroll_reader-reader.result ≡ new_reader m n h.cells.roll.lanes =
    c.enroll_reader-reader.ensures.seat ∙ ap (λ (k : ℕ). new_reader m k h.cells.roll.lanes) (sym i.readers) in
    let seat : c.in-Ok-enroll.seat ≡ new_seat m n =
    c.in-Ok-enroll.ensures.seat ∙ (λ j. record { table = claims j; consumer = sym i.seats j; part = [] }) in
    let none = c.in-Ok.ensures in
    let new = is_new c.mailbox.inside.lanes c.cells.result c.in-Ok.notes none
    c.parts_fit_on.ensures.empty m n h.cells.roll.lanes c.before_heads.new.places.items
    c.before_heads.ensures c.mailbox.invariant.1 in
    let few = c.cells.ensures in
    let same = c.mailbox.invariant.0.cells in
    let its : c.enroll_reader-reader.result.table.size.cells
    ≡ m.cells.size.cells = ap (λ (r : ReaderSeatView). r.table.size.cells) reader in (
      subst IsConsumer (λ j. at_views (sym reader j) (sym seat j) c.before_heads.new.places.items
          c.in-Ok.notes.lists) new,
      (let room = none.room in omega arith),
    )

pub invariant_of-self : goal.invariant_of-self
invariant_of-self g c =
    let h : HubView = record {
      cells = c.self.inside.cells;
      claims = c.self.inside.claims;
      puts = c.self.inside.puts.items;
      records = c.self.inside.records.items;
    } in
    let m : MailboxView = record { cells = c.mailbox.inside.cells; claims = c.mailbox.inside.claims } in
    let table : h.cells.table ≡ m.cells =
    ap (λ (v : HubView). v.cells.table) c.self.view_is ∙ c.requires.belongs.cells
    ∙ sym (ap (λ (v : MailboxView). v.cells) c.mailbox.view_is) in
    let claims : h.claims.table ≡ name_of m.claims =
    ap (λ (v : HubView). v.claims.table) c.self.view_is ∙ c.requires.belongs.claims
    ∙ sym (ap (λ (v : MailboxView). name_of v.claims) c.mailbox.view_is) in
    let i = c.self.invariant.0 in
    let n = length h.records in
    let reader : c.enroll_reader-reader.result ≡ new_reader m n h.cells.roll.lanes =
    c.enroll_reader-reader.ensures.seat ∙ ap (λ (k : ℕ). new_reader m k h.cells.roll.lanes) (sym i.readers) in
    let seat : c.in-Ok-enroll.seat ≡ new_seat m n =
    c.in-Ok-enroll.ensures.seat ∙ (λ j. record { table = claims j; consumer = sym i.seats j; part = [] }) in
    let cells : c.enroll_reader-reader.new.hub ≡ (with_consumer h).cells =
    c.enroll_reader-reader.ensures.hub ∙ ap (λ (t : CellsName). record {
      table = t;
      roll = roll_with_reader h.cells.roll;
    }) (sym table) in
    let seats : c.enroll.new.hub ≡ (with_consumer h).claims = c.in-Ok-enroll.ensures.hub in
    let is : with_consumer h ≡ record {
      cells = c.enroll_reader-reader.new.hub;
      claims = c.enroll.new.hub;
      puts = h.puts;
      records = c.push_reserved.new.self.items;
    } = λ j. record {
      cells = sym cells j;
      claims = sym seats j;
      puts = h.puts;
      records = sym c.push_reserved.ensures.items j;
    } in
    let cap = c.push_reserved.ensures.capacity in
    let wide = subst (λ (t : ClaimHubView). (claims_at t.table).table.values ≤
    c.self.inside.records.cap) (sym seats) c.self.invariant.2 in
    let low : length h.records < (claims_at h.claims.table).table.values =
    (let few = c.if-len-consumers.false in
    let n = c.len.ensures in
    let all : c.consumers.result ≡ (claims_at h.claims.table).table.values =
    c.consumers.ensures ∙ ap consumer_count c.layout.ensures
    ∙ ap (λ (t : ClaimTable). (claims_at t).table.values) (sym claims) in
    omega arith) in (
      subst IsHub is (issued_consumer h i low),
      subst (λ (t : CellHubView). t.table.size.lanes ≤ c.self.inside.puts.cap) (sym cells) c.self.invariant.1,
      omega arith,
    )

pub returns-clause-consumer : goal.returns-clause-consumer
returns-clause-consumer g c =
    let h : HubView = record {
      cells = c.self.inside.cells;
      claims = c.self.inside.claims;
      puts = c.self.inside.puts.items;
      records = c.self.inside.records.items;
    } in
    let m : MailboxView = record { cells = c.mailbox.inside.cells; claims = c.mailbox.inside.claims } in
    let table : h.cells.table ≡ m.cells =
    ap (λ (v : HubView). v.cells.table) c.self.view_is ∙ c.requires.belongs.cells
    ∙ sym (ap (λ (v : MailboxView). v.cells) c.mailbox.view_is) in
    let claims : h.claims.table ≡ name_of m.claims =
    ap (λ (v : HubView). v.claims.table) c.self.view_is ∙ c.requires.belongs.claims
    ∙ sym (ap (λ (v : MailboxView). name_of v.claims) c.mailbox.view_is) in
    let i = c.self.invariant.0 in
    let n = length h.records in
    let reader : c.enroll_reader-reader.result ≡ new_reader m n h.cells.roll.lanes =
    c.enroll_reader-reader.ensures.seat ∙ ap (λ (k : ℕ). new_reader m k h.cells.roll.lanes) (sym i.readers) in
    let seat : c.in-Ok-enroll.seat ≡ new_seat m n =
    c.in-Ok-enroll.ensures.seat ∙ (λ j. record { table = claims j; consumer = sym i.seats j; part = [] }) in
    subst (λ (z : MailboxView × HubView). IsNewConsumer z.0 z.1
    (at_views c.enroll_reader-reader.result c.in-Ok-enroll.seat c.before_heads.new.places.items
    c.in-Ok.notes.lists))
    (λ j. (c.mailbox.view_is j, c.self.view_is j))
    (record { reader = reader; seat = seat; notes = c.in-Ok.ensures.empty })
