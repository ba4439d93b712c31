use Rattle.std.proofs.Common.{◌≡◌, [], ap, arith, length, refl, true, ◌∙◌}
use Rattle.std.proofs.lemmas.List.{append-nil}
use Rattle.mb_mailbox.specs.Hubs.{HubView}
use Rattle.mb_mailbox.proofs.HubRuns.{same_by_producers}
use Rattle.mb_mailbox.proofs.Loops.{both_issued, no_polls_issued}
use Rattle.mb_mailbox.proofs.crew.issue.give.Goals as goal

-- `same` says that to issue producers leaves the number of consumers issued as it is
pub issue_consumers-requires-clause-left : goal.issue_consumers-requires-clause-left
issue_consumers-requires-clause-left g c =
    let given = c.issue_producers.ensures.early.given in
    let same : length c.issue_producers.new.hub.records ≡ length c.args.hub.now.records =
    ap (λ (h : HubView). length h.records) given.hub
    ∙ ap length (same_by_producers (λ h. h.records) (λ h. refl) given.puts c.args.hub.now) in
    omega (arith, same, c.requires.consumers)

-- if a producer was refused, no consumer was issued
pub returns-then-not-issue_producers-clause-early : goal.returns-then-not-issue_producers-clause-early
returns-then-not-issue_producers-clause-early g c =
    let e = c.issue_producers.ensures.early in
    let first = c.issue_producers.new.jobs.items in
    let mid = c.issue_producers.new.hub in
    record {
      front = e.front;
      rest = e.rest;
      whole = e.whole;
      given = both_issued c.args.mailbox.now c.args.hub.now mid mid e.front [] true first first e.given
          (no_polls_issued c.args.mailbox.now mid mid mid first refl);
      few = omega arith;
    }

pub returns-clause-early : goal.returns-clause-early
returns-clause-early g c =
    let q = c.issue_consumers.ensures.given in
    let few = q.few in
    record {
      front = c.args.items.items;
      rest = [];
      whole = append-nil c.args.items.items;
      given = both_issued c.args.mailbox.now c.args.hub.now c.issue_producers.new.hub c.issue_consumers.new.hub
          c.args.items.items c.args.rngs.items c.issue_consumers.result c.issue_producers.new.jobs.items
          c.issue_consumers.new.jobs.items (c.issue_producers.ensures.all c.if-not-issue_producers.false) q;
      few = omega (arith, few, c.args.rngs.ok.0);
    }

pub returns-clause-all : goal.returns-clause-all
returns-clause-all g c = λ done. record {
  given = both_issued c.args.mailbox.now c.args.hub.now c.issue_producers.new.hub c.issue_consumers.new.hub
      c.args.items.items c.args.rngs.items c.issue_consumers.result c.issue_producers.new.jobs.items
      c.issue_consumers.new.jobs.items (c.issue_producers.ensures.all c.if-not-issue_producers.false)
      c.issue_consumers.ensures.given;
  all_sources = c.issue_consumers.ensures.given.all_sources done;
}
