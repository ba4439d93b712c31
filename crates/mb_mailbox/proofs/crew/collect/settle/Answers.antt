use Rattle.std.proofs.Common.{◌≡◌, ◌^◌, ◌-◌, ◌<◌, ◌∙◌, List, ap, false, length, min, subst, sym, true}
use Rattle.std.specs.Int.{from_bool}
use Rattle.std.specs.List.{All, sum_by}
use Rattle.std.proofs.lemmas.List.{nil_from_length}
use Rattle.std.proofs.lemmas.List.Elements.{All-head, All-rest}
use Rattle.mb_mailbox.specs.Runs.{IsDoneOf, full_of, is_aborted, is_stopped, with_taken}
use Rattle.mb_mailbox.specs.declared.crew.jobs.Done.{Done}
use Rattle.mb_mailbox.proofs.Loops.{full_more, on_more, some_seen, told_more, took_more}
use Rattle.mb_mailbox.proofs.Zips.{all_seen, next_seen}
use Rattle.mb_mailbox.proofs.crew.collect.settle.Goals as goal

pub take_one-totals-requires-clause-end : goal.take_one-totals-requires-clause-end
take_one-totals-requires-clause-end g c =
    All-head (IsDoneOf c.args.mailbox.now) c.in-Some.end _
    (subst (All (IsDoneOf c.args.mailbox.now)) c.in-Some.ensures.steps.0 c.loop-end.invariant.to_take)

pub loop-end-preserved : goal.loop-end-preserved
loop-end-preserved g c =
    let i = c.loop-end.invariant in
    let one = c.take_one-totals.ensures in
    record {
      rest = next_seen _ _ _ _ _ i.rest c.in-Some.ensures.steps.0;
      to_take = All-rest (IsDoneOf c.args.mailbox.now) c.in-Some.end _ _ c.in-Some.ensures.steps.0 i.to_take;
      full = full_more full_of (2 ^ 64 - 1) _ _ c.loop-end.yielded c.in-Some.end i.full one.full;
      stopped = full_more (λ d. from_bool (is_stopped d)) (2 ^ 64 - 1) _ _ c.loop-end.yielded c.in-Some.end
          i.stopped one.stopped;
      on = on_more is_aborted _ _ c.loop-end.yielded c.in-Some.end i.on one.aborted;
      told = told_more is_aborted _ _ c.loop-end.yielded c.in-Some.end i.told one.aborted;
      some = λ o. some_seen c.loop-end.yielded c.in-Some.end;
      hub = took_more c.loop-end.yielded c.in-Some.end c.args.hub.now _ _ i.hub one.hub;
      all_of = one.belongs;
    }

-- in each proof below `all` says that the iterator is empty, so all ends were yielded
pub returns-then-aborted-clause-aborted : goal.returns-then-aborted-clause-aborted
returns-then-aborted-clause-aborted g c = λ none.
    let all = all_seen _ _ _ c.loop-end.invariant.rest
    (nil_from_length _ (sym c.loop-end.end-iterator.rest.ok.0 ∙ c.in-None.ensures.steps.0)) in
    sym (c.loop-end.invariant.told (subst (All (λ d. is_aborted d ≡ false)) (sym all) none)) ∙ c.if-aborted.true

pub returns-then-aborted-clause-some : goal.returns-then-aborted-clause-some
returns-then-aborted-clause-some g c =
    let all = all_seen _ _ _ c.loop-end.invariant.rest
    (nil_from_length _ (sym c.loop-end.end-iterator.rest.ok.0 ∙ c.in-None.ensures.steps.0)) in
    subst (λ (l : List (Done _)). 0 < length l) all (c.loop-end.invariant.some c.if-aborted.true)

pub returns-then-aborted-clause-hub : goal.returns-then-aborted-clause-hub
returns-then-aborted-clause-hub g c =
    let all = all_seen _ _ _ c.loop-end.invariant.rest
    (nil_from_length _ (sym c.loop-end.end-iterator.rest.ok.0 ∙ c.in-None.ensures.steps.0)) in
    c.loop-end.invariant.hub ∙ ap (λ (l : List (Done _)). with_taken l c.args.hub.now) all

pub returns-else-aborted-clause-stopped : goal.returns-else-aborted-clause-stopped
returns-else-aborted-clause-stopped g c =
    let all = all_seen _ _ _ c.loop-end.invariant.rest
    (nil_from_length _ (sym c.loop-end.end-iterator.rest.ok.0 ∙ c.in-None.ensures.steps.0)) in
    subst (λ (l : List (Done _)). c.loop-end.totals.stopped ≡ min (2 ^ 64 - 1)
    (sum_by (λ d. from_bool (is_stopped d)) l)) all c.loop-end.invariant.stopped

pub returns-else-aborted-clause-on : goal.returns-else-aborted-clause-on
returns-else-aborted-clause-on g c =
    let all = all_seen _ _ _ c.loop-end.invariant.rest
    (nil_from_length _ (sym c.loop-end.end-iterator.rest.ok.0 ∙ c.in-None.ensures.steps.0)) in
    subst (All (λ d. is_aborted d ≡ false)) all (c.loop-end.invariant.on c.if-aborted.false)

pub returns-else-aborted-clause-hub : goal.returns-else-aborted-clause-hub
returns-else-aborted-clause-hub g c =
    let all = all_seen _ _ _ c.loop-end.invariant.rest
    (nil_from_length _ (sym c.loop-end.end-iterator.rest.ok.0 ∙ c.in-None.ensures.steps.0)) in
    c.loop-end.invariant.hub ∙ ap (λ (l : List (Done _)). with_taken l c.args.hub.now) all
