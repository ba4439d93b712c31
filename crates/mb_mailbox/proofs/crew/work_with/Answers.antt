use Rattle.std.proofs.Common.{ℕ, ◌≡◌, ◌-◌, ◌∙◌, ap, arith, length, map, subst, sym, vec_len}
use Rattle.std.proofs.lemmas.List.{length-map}
use Rattle.mb_mailbox.specs.Called.{IsCalled}
use Rattle.mb_mailbox.specs.Runs.{ArePutsFirst}
use Rattle.mb_mailbox.specs.Worked.{WereTakenIn, lists_in}
use Rattle.mb_mailbox.specs.declared.crew.Worked.{Worked}
use Rattle.mb_mailbox.proofs.Final.{called, early, put_count, some_worker, taken}
use Rattle.mb_mailbox.proofs.Loops.{puts_first}
use Rattle.mb_mailbox.proofs.Parted.{ends_at}
use Rattle.mb_mailbox.proofs.crew.work_with.Goals as goal

pub run-ends-requires-clause-first : goal.run-ends-requires-clause-first
run-ends-requires-clause-first g c κs within =
    let given = (c.give.ensures.all c.if-not-give.false).given in
    let count = put_count c.args.mailbox.now _ c.args.load.items.items given.puts given.are_puts in
    let first = c.next_lanes-lanes.ensures.from in
    let last = c.next_lanes-lanes.ensures.end in
    let many : length given.puts ≡ c.next_lanes-lanes.result.end - c.next_lanes-lanes.result.from =
    omega (arith, count, first, last, c.len.ensures, c.args.load.items.ok.0) in
    subst (λ (n : ℕ). ArePutsFirst n c.give.new.jobs.items) many
    (subst (ArePutsFirst (length given.puts)) (sym given.whole) (puts_first given.puts given.polls))

pub settle-requires-clause-ends : goal.settle-requires-clause-ends
settle-requires-clause-ends g c =
    ends_at (g.G.Gate.may_stop c.args.gate.now) (g.G.Gate.may_pass c.args.gate.now) g.R.Rng.stream
    c.next_lanes-lanes.result c.args.mailbox.now c.give.new.jobs.items c.end_all-ends.result.items
    c.give.ensures.jobs c.end_all-ends.ensures

pub settle-requires-2-clause-ends : goal.settle-requires-2-clause-ends
settle-requires-2-clause-ends g c =
    ends_at (g.G.Gate.may_stop c.args.gate.now) (g.G.Gate.may_pass c.args.gate.now) g.R.Rng.stream
    c.next_lanes-lanes.result c.args.mailbox.now c.give.new.jobs.items c.run-ends.result.items
    c.give.ensures.jobs c.run-ends.ensures

pub returns-then-not-give-clause-no_memory : goal.returns-then-not-give-clause-no_memory
returns-then-not-give-clause-no_memory g c = λ e.
    early c.args.mailbox.now (g.G.Gate.may_stop c.args.gate.now) (g.G.Gate.may_pass c.args.gate.now) g.R.Rng.stream
    c.args.load.items.items c.next_lanes-lanes.result c.give.new.jobs.items c.end_all-ends.result.items
    c.args.hub.now c.give.new.hub c.settle.new.hub c.has_history.ensures.kept _ c.give.ensures.early
    (omega (
      arith,
      c.give.ensures.fewer c.if-not-give.true,
      c.give.new.jobs.ok.0,
      c.args.load.items.ok.0,
    )) c.end_all-ends.ensures c.settle.ensures.hub

pub end_all-ends-requires-clause-room : goal.end_all-ends-requires-clause-room
end_all-ends-requires-clause-room g c κs within = omega (arith, c.give.ensures.few, c.requires.ends.1)

pub run-ends-requires-clause-begun : goal.run-ends-requires-clause-begun
run-ends-requires-clause-begun g c κs within =
    (c.requires.begun.0, omega (arith, c.give.ensures.few, c.requires.begun.1))

pub run-ends-requires-clause-done : goal.run-ends-requires-clause-done
run-ends-requires-clause-done g c κs within =
    (c.requires.ends.0, omega (arith, c.give.ensures.few, c.requires.ends.1))

pub returns-in-Ok-clause-called : goal.returns-in-Ok-clause-called
returns-in-Ok-clause-called g c =
    let all = c.give.ensures.all c.if-not-give.false in
    let first = c.next_lanes-lanes.ensures.from in
    let last = c.next_lanes-lanes.ensures.end in
    let given = c.lanes_given.ensures in
    let told : Worked = c.in-Ok.worked in
    subst (λ (b : ℕ). IsCalled (g.G.Gate.may_stop c.args.gate.now)
    (g.G.Gate.may_pass c.args.gate.now) b (lists_in c.args.load.items.items)
    (map g.R.Rng.stream c.args.load.rngs.items) told c.args.hub.now c.settle-2.new.hub)
    c.next_lanes-lanes.ensures.budget
    (called c.args.mailbox.now (g.G.Gate.may_stop c.args.gate.now)
    (g.G.Gate.may_pass c.args.gate.now) g.R.Rng.stream c.args.load.items.items c.next_lanes-lanes.result
    c.give.new.jobs.items c.run-ends.result.items c.args.hub.now c.give.new.hub c.settle-2.new.hub
    c.has_history.ensures.kept all.given c.run-ends.ensures c.settle-2.ensures.hub
    c.args.load.rngs.items all.all_sources told c.in-Ok.ensures.full
    c.in-Ok.ensures.stopped c.in-Ok.ensures.on
    (omega (
      arith,
      c.requires.lanes,
      c.requires.consumers,
      c.lanes_are_few.ensures,
      c.consumers_are_few.ensures,
      c.args.load.items.ok.0,
      c.args.load.rngs.ok.0,
    )) c.has_history-in-Ok.ensures.kept
    c.settle-2.ensures.belongs c.has_history-in-Ok.ensures.pool.0
    c.has_history-in-Ok.ensures.pool.1 (omega (arith, first, given))
    (omega (arith, last, given, c.len.ensures, c.args.load.items.ok.0)) c.ends_tell_notes.ensures c.requires.belongs)

-- `count` says that there are as many consumers as sources
pub returns-clause-no_thread : goal.returns-clause-no_thread
returns-clause-no_thread g c = λ e.
    let all = c.give.ensures.all c.if-not-give.false in
    let count : length all.given.polls ≡ vec_len c.args.load.rngs =
    sym (length-map all.given.polls (λ j. j.rng)) ∙ ap length all.all_sources ∙ sym c.args.load.rngs.ok.0 in
    subst (λ (n : ℕ). WereTakenIn (lists_in c.args.load.items.items) n c.args.hub.now c.settle-2.new.hub) count
    (taken c.args.mailbox.now (g.G.Gate.may_stop c.args.gate.now) (g.G.Gate.may_pass c.args.gate.now)
    g.R.Rng.stream c.args.load.items.items c.next_lanes-lanes.result c.give.new.jobs.items
    c.run-ends.result.items c.args.hub.now c.give.new.hub c.settle-2.new.hub c.has_history.ensures.kept
    all.given c.run-ends.ensures c.settle-2.ensures.hub)

pub returns-clause-some_thread : goal.returns-clause-some_thread
returns-clause-some_thread g c = λ e.
    let all = c.give.ensures.all c.if-not-give.false in
    let count : length all.given.polls ≡ vec_len c.args.load.rngs =
    sym (length-map all.given.polls (λ j. j.rng)) ∙ ap length all.all_sources ∙ sym c.args.load.rngs.ok.0 in
    let some = some_worker c.args.mailbox.now (g.G.Gate.may_stop c.args.gate.now)
    (g.G.Gate.may_pass c.args.gate.now) g.R.Rng.stream c.args.load.items.items c.next_lanes-lanes.result
    c.give.new.jobs.items c.run-ends.result.items c.args.hub.now c.give.new.hub c.settle-2.new.hub
    c.has_history.ensures.kept all.given c.run-ends.ensures c.settle-2.ensures.hub c.in-Err.ensures.some in
    omega (arith, some, count, c.args.load.items.ok.0)
