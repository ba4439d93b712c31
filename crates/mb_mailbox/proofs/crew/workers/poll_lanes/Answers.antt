use Rattle.std.proofs.Common.{⊎_elim, inl, inr, rules, ◌≡◌, ◌∙◌, ◌-◌, ◌<◌, ◌≤◌, ℕ, Bool, List, [], ◌∷◌, None, Option, Some, arith, false, refl, subst, sym, true}
use Rattle.std.specs.Prelude.{IfNone, IfSome, is_some}
use Rattle.mb_mailbox.specs.Jobs.{IsStopBefore}
use Rattle.mb_mailbox.specs.declared.gate.Who.TheVariants as who
use Rattle.mb_mailbox.proofs.Called.{called_more, none_called}
use Rattle.mb_mailbox.proofs.Loops.{budget_more}
use Rattle.mb_mailbox.proofs.EndsMet.{none_met}
use Rattle.mb_mailbox.proofs.Looks.{none_on}
use Rattle.mb_mailbox.proofs.Marks.{clear, marks_all, marks_fewer, within}
use Rattle.mb_mailbox.proofs.crew.workers.poll_lanes.Goals as goal
use Rattle.mb_mailbox.proofs.crew.workers.poll_lanes.Goals.{else-loop-call-test, then-loop-call-test+in-Some+else-is_some+then-not-enter}

-- the marks before the first call: sixteen lanes, none of them marked
abbrev sixteen : List Bool
sixteen = false ∷ false ∷ false ∷ false ∷ false ∷ false ∷ false ∷ false ∷ false ∷ false ∷ false
    ∷ false ∷ false ∷ false ∷ false ∷ false ∷ []

-- if o is `None`, `IfNone o P` gives P. By `left_of`, if o is some x, two statements `IfSome` on o give P x and Q x
none_left : {P : Type 0} (o : Option ℕ) → is_some o ≡ false → IfNone o P → P
none_left None e h = h
none_left (Some x) e h = absurd (cc)

left_of : {P Q : ℕ → Type 0} (o : Option ℕ) → is_some o ≡ true → IfSome o P → IfSome o Q → (x : ℕ) × P x × Q x
left_of None e h i = absurd (cc)
left_of (Some x) e h i = (x, h, i)

pub loop-call-init : goal.loop-call-init
loop-call-init g c = record {
  place = c.args.lanes.ordered;
  all_of = c.requires.belongs;
  same = record { cells = refl; reader = refl; claims = refl; consumer = refl };
  read = λ p e. absurd (clear sixteen p (tt {0}) e);
  only = none_on c.args.lanes.from c.args.lanes.end c.args.job.consumer;
  marks = λ p e. absurd (clear sixteen p (tt {0}) e);
  ends = λ none. none_met c.args.job.consumer none;
  made = omega arith;
  most = omega arith;
  called = none_called (g.G.Gate.may_pass c.args.gate.now) _ _ _ _ _ c.args.job.consumer (omega arith);
}

pub loop-call-preserved : goal.loop-call-preserved
loop-call-preserved g c =
    let was = c.loop-call.invariant in
    let made = was.made in
    let more = c.poll_lane-poll.ensures.made in
    record {
      place = omega (arith, c.in-Some.ensures.some.0);
      all_of = c.poll_lane-poll.ensures.belongs;
      same = record {
        cells = c.poll_lane-poll.ensures.same.cells ∙ was.same.cells;
        reader = c.poll_lane-poll.ensures.same.reader ∙ was.same.reader;
        claims = c.poll_lane-poll.ensures.same.claims ∙ was.same.claims;
        consumer = c.poll_lane-poll.ensures.same.consumer ∙ was.same.consumer;
      };
      read = c.poll_lane-poll.ensures.read;
      only = λ none.
          c.poll_lane-poll.ensures.only c.args.lanes.from c.args.lanes.end c.in-Some.ensures.low
          c.in-Some.ensures.some.0 (was.only none);
      marks = λ p e. ⊎_elim
          (λ (same : p ≡ c.in-Some.lane). (
            omega (arith, same, c.in-Some.ensures.low),
            omega (arith, same, c.in-Some.ensures.some.0),
          ))
          (λ t. was.marks p t) (c.poll_lane-poll.ensures.marks p e);
      ends = λ none. let met = was.ends none in
          let next = c.poll_lane-poll.ensures.ends in
          omega (arith, met, next);
      made = omega (arith, made, more);
      most = budget_more c.args.lanes.budget c.loop-call.call _ _ _
          (omega (arith, c.loop-call.auto.call)) was.most c.poll_lane-poll.ensures.most;
      called = called_more (g.G.Gate.may_pass c.args.gate.now) _ _ _ (c.loop-call.call - 1) _
          c.in-Some.lane c.poll_lane-poll.result _ _ _ _ _ _
          (omega (arith, c.loop-call.auto.call)) was.called c.in-Some.ensures.low
          c.in-Some.ensures.some.0 c.poll_lane-poll.ensures.polled (search rules);
    }

-- `poll_lanes` returns from within the loop: all lanes have ended
pub returns-in_default : goal.returns-in_default
returns-in_default g c = record {
  same = c.loop-call.invariant.same;
  read = λ f p low high. c.loop-call.invariant.read p
      (within c.loop-call.ended p (omega (
        arith,
        high,
        c.args.lanes.few,
        c.loop-call-test.array_long,
      )) (c.in_default.ensures.none p low high));
  ends = λ f none.
      let met = c.loop-call.invariant.ends none in
      let all = marks_all c.loop-call.ended c.args.lanes.from c.args.lanes.end c.loop-call.invariant.marks
      (λ p low high. within c.loop-call.ended p
      (omega (arith, high, c.args.lanes.few, c.loop-call-test.array_long))
      (c.in_default.ensures.none p low high)) in
      omega (arith, met, all);
  marked = λ none. record {
    marks = c.loop-call.ended;
    within = c.loop-call.invariant.marks;
    read = c.loop-call.invariant.read;
    once = c.loop-call.invariant.ends none;
  };
  stop = λ t o none. absurd (cc);
  unread = λ t o none. absurd (cc);
  only = λ o. c.loop-call.invariant.only;
  polled = λ o. record {
    calls = c.loop-call.call - 1;
    left = g.R.Rng.stream c.loop-call.rng;
    called = c.loop-call.invariant.called;
    stop = λ t. absurd (cc);
  };
}

-- after the loop: if a lane has not ended, the consumer was stopped
pub returns : goal.returns
returns g c =
    let i = c.loop-call.invariant in
    let most = i.most in
    let stop : IsStopBefore (g.G.Gate.may_stop c.args.gate.now)
    (who.Consumer c.args.job.consumer.seat.consumer) c.loop-call.call = elim
    c.loop-call-test.branch [
      | else-loop-call-test w ↦ inr (omega (arith, w.loop-call-test.false, c.loop-call.auto.call))
      | then-loop-call-test+in-Some+else-is_some+then-not-enter w ↦ inl (search rules)
    ] in
    let ended = λ (f : c.is_some-stopped.result ≡ false) (p : ℕ) (low : c.args.lanes.from ≤ p)
    (high : p < c.args.lanes.end). within c.loop-call.ended p
    (omega (arith, high, c.args.lanes.few, c.loop-call-test.array_long))
    (none_left c.next_lane-2.result (sym c.is_some-stopped.ensures ∙ f) c.next_lane-2.ensures.none p low high) in
    record {
      same = i.same;
      read = λ f p low high. i.read p (ended f p low high);
      ends = λ f none.
          let met = i.ends none in
          let all = marks_all c.loop-call.ended c.args.lanes.from c.args.lanes.end i.marks (ended f) in
          omega (arith, met, all);
      marked = λ none. record { marks = c.loop-call.ended; within = i.marks; read = i.read; once = i.ends none };
      stop = λ t o none. record {
        call = c.loop-call.call;
        first = omega (arith, c.loop-call.auto.call);
        within = i.made;
        most = omega (arith, most, none);
        stop = stop;
      };
      unread = λ t o none.
          let met = i.ends none in
          let left = left_of c.next_lane-2.result (sym c.is_some-stopped.ensures ∙ t) c.next_lane-2.ensures.some
          c.next_lane-2.ensures.low in
          let fewer = marks_fewer c.loop-call.ended c.args.lanes.from c.args.lanes.end left.0 i.marks
          left.1.1 left.2 left.1.0 in
          omega (arith, met, fewer);
      only = λ o. i.only;
      polled = λ o. record {
        calls = c.loop-call.call - 1;
        left = g.R.Rng.stream c.loop-call.rng;
        called = i.called;
        stop = λ t. subst (λ (n : ℕ). IsStopBefore (g.G.Gate.may_stop c.args.gate.now)
            (who.Consumer c.args.job.consumer.seat.consumer) n)
            (omega (arith, c.loop-call.auto.call)) stop;
      };
    }
