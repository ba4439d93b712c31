use Rattle.std.proofs.Common.{[], ◌≡◌, ◌∙◌, ◌∷◌, ◌++◌, ◌<◌, None, ap, arith, length, subst, sym}
use Rattle.mb_shared_cells.specs.Vocabulary.{CellHubView, CellsName, roll_with_lane}
use Rattle.mb_mailbox.specs.Mailboxes.{MailboxView}
use Rattle.mb_mailbox.specs.Hubs.{HubView, IsHub, with_producer}
use Rattle.mb_mailbox.proofs.HubMoves.{issued_producer}
use Rattle.mb_mailbox.proofs.hub.Hub.producer.Goals as goal

-- h is the hub before the call, by its fields. The call leaves `with_producer h`. `cells` says so
-- of the hub of the cells, and `lists` of the put lists. The other two fields are those of h
pub invariant_of-self : goal.invariant_of-self
invariant_of-self g c =
    let h : HubView = record {
      cells = c.self.inside.cells;
      claims = c.self.inside.claims;
      puts = c.self.inside.puts.items;
      records = c.self.inside.records.items;
    } in
    let lists : c.push_reserved.new.self.items ≡ c.self.inside.puts.items ++ None
    ∷ [] = c.push_reserved.ensures.items in
    let table : h.cells.table ≡ c.mailbox.inside.cells =
    ap (λ (v : HubView). v.cells.table) c.self.view_is ∙ c.requires.belongs.cells
    ∙ sym (ap (λ (m : MailboxView). m.cells) c.mailbox.view_is) in
    let hub = c.in-Ok-enroll_lane.ensures.hub in
    let cells : c.enroll_lane.new.hub ≡ (with_producer h).cells =
    hub ∙ ap (λ (t : CellsName). record { table = t; roll = roll_with_lane h.cells.roll }) (sym table) in
    let lanes : c.enroll_lane.new.hub.table.size.lanes
    ≡ h.cells.table.size.lanes = ap (λ (v : CellHubView). v.table.size.lanes) cells in
    let wide = c.self.invariant.1 in
    let cap = c.push_reserved.ensures.capacity in
    let is : with_producer h ≡ record {
      cells = c.enroll_lane.new.hub;
      claims = c.self.inside.claims;
      puts = c.push_reserved.new.self.items;
      records = c.self.inside.records.items;
    } = λ j. record {
      cells = sym cells j;
      claims = c.self.inside.claims;
      puts = sym lists j;
      records = c.self.inside.records.items;
    } in
    let low : length h.puts < h.cells.table.size.lanes =
    (let few = c.if-len-mailbox.false in
    let n = c.len.ensures in
    let m = c.mailbox.invariant.1 in
    let its : h.cells.table.size.lanes ≡ c.mailbox.inside.cells.size.lanes =
    ap (λ (t : CellsName). t.size.lanes) table in
    omega arith) in
    (subst IsHub is (issued_producer h c.self.invariant.0 low), omega arith, c.self.invariant.2)
