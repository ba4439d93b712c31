use Rattle.std.proofs.Common.{◌≡◌, ◌∙◌, ap, arith, subst, sym}
use Rattle.mb_world.specs.Theorem.{ReportView}
use Rattle.mb_mailbox.specs.Gathering.{count_missing, IsGathered, IsOutlineIn, IsReportIn}
use Rattle.mb_mailbox.specs.Imports.{claims_at, consumer_count, name_of}
use Rattle.mb_mailbox.specs.Hubs.{HubView, IsHub, IsHubOf}
use Rattle.mb_mailbox.specs.Mailboxes.{MailboxView}
use Rattle.mb_mailbox.proofs.Filled.{report_of}
use Rattle.mb_mailbox.proofs.mailbox.Mailbox.gather_with.Goals as goal

-- Several proofs have these terms: the hub h, the mailbox m, the outline o and the report r by their fields. `of` says
-- that h is the hub of m, and `out` that o is the outline of the report of h
pub fill_lanes-requires : goal.fill_lanes-requires
fill_lanes-requires g c =
    let out = subst (λ (z : HubView × ReportView). IsOutlineIn z.0.cells.table.size.lanes
    (claims_at z.0.claims.table).table.values z.0 z.1)
    (λ j. (sym c.hub.view_is j, sym c.outline.view_is j)) c.draft.invariant in
    let few = c.hub.invariant.0.few_lanes in
    let count = out.each_lane.count in
    let puts = c.hub.inside.puts.ok.0 in
    let lanes = c.outline.inside.lanes.ok.0 in
    omega (arith, few, count, puts, lanes)

pub close-requires : goal.close-requires
close-requires g c =
    ap (λ (v : HubView). v.cells.table) (c.hub.view_is ∙ c.draft.view_is) ∙ c.requires.belongs.cells
    ∙ sym (ap (λ (m : MailboxView). m.cells) c.self.view_is)

pub close-requires-2-clause-table : goal.close-requires-2-clause-table
close-requires-2-clause-table g c =
    ap (λ (v : HubView). v.claims.table) (c.hub.view_is ∙ c.draft.view_is) ∙ c.requires.belongs.claims
    ∙ sym (ap (λ (m : MailboxView). name_of m.claims) c.self.view_is)

pub close-requires-2-clause-all_in : goal.close-requires-2-clause-all_in
close-requires-2-clause-all_in g c =
    let h : HubView = record {
      cells = c.hub.inside.cells;
      claims = c.hub.inside.claims;
      puts = c.hub.inside.puts.items;
      records = c.hub.inside.records.items;
    } in
    let records : count_missing h.records ≡ 0 = ap (λ (x : HubView). count_missing x.records)
    (c.hub.view_is ∙ c.draft.view_is) ∙ c.requires.consumers in
    c.gathering_is_sound.ensures.all_in h c.hub.invariant.0 records

pub returns-clause-lists : goal.returns-clause-lists
returns-clause-lists g c =
    let h : HubView = record {
      cells = c.hub.inside.cells;
      claims = c.hub.inside.claims;
      puts = c.hub.inside.puts.items;
      records = c.hub.inside.records.items;
    } in
    let m : MailboxView = record { cells = c.self.inside.cells; claims = c.self.inside.claims } in
    let o : ReportView = record { lanes = c.outline.inside.lanes.items; diaries = c.outline.inside.diaries.items } in
    let r : ReportView = record { lanes = c.fill_lanes.new.lanes.items; diaries = c.outline.inside.diaries.items } in
    let is : h ≡ c.args.draft = c.hub.view_is ∙ c.draft.view_is in
    let belongs : IsHubOf m h = subst (λ (z : MailboxView × HubView). IsHubOf z.0 z.1)
    (λ j. (sym c.self.view_is j, sym is j)) c.requires.belongs in
    let out = subst (λ (z : HubView × ReportView). IsOutlineIn z.0.cells.table.size.lanes
    (claims_at z.0.claims.table).table.values z.0 z.1)
    (λ j. (sym c.hub.view_is j, sym c.outline.view_is j)) c.draft.invariant in
    subst (λ (z : MailboxView × HubView). IsReportIn z.0.cells.size.lanes (consumer_count z.0.claims.layout) z.1 r)
    (λ j. (c.self.view_is j, is j))
    (report_of m h o r.lanes belongs out c.fill_lanes.ensures)

pub returns-clause-main_theorem : goal.returns-clause-main_theorem
returns-clause-main_theorem g c =
    let h : HubView = record {
      cells = c.hub.inside.cells;
      claims = c.hub.inside.claims;
      puts = c.hub.inside.puts.items;
      records = c.hub.inside.records.items;
    } in
    let m : MailboxView = record { cells = c.self.inside.cells; claims = c.self.inside.claims } in
    let r : ReportView = record { lanes = c.fill_lanes.new.lanes.items; diaries = c.outline.inside.diaries.items } in
    let is : h ≡ c.args.draft = c.hub.view_is ∙ c.draft.view_is in
    let belongs : IsHubOf m h = subst (λ (z : MailboxView × HubView). IsHubOf z.0 z.1)
    (λ j. (sym c.self.view_is j, sym is j)) c.requires.belongs in
    let records : count_missing h.records ≡ 0 = ap (λ (x : HubView). count_missing x.records)
    is ∙ c.requires.consumers in
    let puts : count_missing h.puts ≡ 0 = ap (λ (x : HubView). count_missing x.puts) is
    ∙ c.requires.producers in
    let rep : IsReportIn m.cells.size.lanes (consumer_count m.claims.layout) h r =
    subst (λ (z : MailboxView × HubView). IsReportIn z.0.cells.size.lanes (consumer_count z.0.claims.layout) z.1 r)
    (λ j. (sym c.self.view_is j, sym is j)) (returns-clause-lists g c) in
    let told : IsGathered m h r =
    c.gathering_is_sound.ensures.main_theorem m h r c.close.ensures.0 c.self.invariant.0 c.hub.invariant.0 belongs
    puts records c.close-2.ensures c.close.ensures.1 rep in
    subst (λ (z : MailboxView × HubView). IsGathered z.0 z.1 r) (λ j. (c.self.view_is j, is j)) told

pub returns-clause-full : goal.returns-clause-full
returns-clause-full g c =
    let i : IsHub c.args.draft = subst IsHub (c.hub.view_is ∙ c.draft.view_is) c.hub.invariant.0 in
    let r : ReportView = record { lanes = c.fill_lanes.new.lanes.items; diaries = c.outline.inside.diaries.items } in
    c.gathering_is_sound.ensures.full c.args.self c.args.draft r i c.requires.belongs
    c.requires.producers (returns-clause-main_theorem g c)

pub returns-clause-undecided : goal.returns-clause-undecided
returns-clause-undecided g c =
    let r : ReportView = record { lanes = c.fill_lanes.new.lanes.items; diaries = c.outline.inside.diaries.items } in
    c.gathering_is_sound.ensures.undecided c.args.self c.args.draft r (returns-clause-main_theorem g c)
