-- Proof of `events`, which returns the events of the lines after the first, or the first fault of these lines.
use Rattle.std.proofs.Common.{rules, arith, ◌≡◌, [], ◌∷◌, ◌++◌, ◌≤◌, ◌+◌, suc, length, sym, ◌∙◌, length-append}
use Rattle.std.specs.Vec.{vec_len}
use Rattle.mb_world.specs.Setups.{plan_in}
use Rattle.mb_script.specs.Scripts.{event_at}
use Rattle.mb_script.proofs.Lined.{fails_whole, line_fails, line_too_many, line_works, lines_end}
use Rattle.mb_script.proofs.parser.events.Goals as goal

pub returns-then-len-eq-MAX_EVENTS : goal.returns-then-len-eq-MAX_EVENTS
returns-then-len-eq-MAX_EVENTS g c =
    let plan = plan_in c.args.setup.now in
    let done = c.loop-line.events.items in
    let read = rw c.in-Some.ensures.lines at c.loop-line.invariant.read in
    let same : vec_len c.loop-line.events ≡ length done = c.loop-line.events.ok.0 in
    let many : length done ≡ 20000 = sym same ∙ sym c.len.ensures ∙ c.if-len-eq-MAX_EVENTS.true in (
      λ w. line_too_many plan done (length done + 2) c.in-Some.line.now _ _ (omega (arith, many))
          read,
      search rules,
      search rules,
    )

pub returns-in_err-event_at : goal.returns-in_err-event_at
returns-in_err-event_at g c =
    let plan = plan_in c.args.setup.now in
    let done = c.loop-line.events.items in
    let n = length done + 2 in
    let read = rw c.in-Some.ensures.lines at c.loop-line.invariant.read in
    let few : length done ≤ 20000 = c.loop-line.invariant.few in
    let same : vec_len c.loop-line.events ≡ length done = c.loop-line.events.ok.0 in
    let len : c.len-in-Some.result ≡ length done = c.len-in-Some.ensures ∙ same in
    let below : n ≤ 20001 = omega (arith, few, same, c.len.ensures, c.if-len-eq-MAX_EVENTS.false) in
    fails_whole _ _ _ (event_at plan n c.in-Some.line.now) _ c.from_residual.ensures.1
    (rw len at c.in_err-event_at.ensures)
    (λ e. line_fails plan done n c.in-Some.line.now _ _ _ below read e)

pub loop-line-preserved : goal.loop-line-preserved
loop-line-preserved g c =
    let plan = plan_in c.args.setup.now in
    let done = c.loop-line.events.items in
    let n = length done + 2 in
    let read = rw c.in-Some.ensures.lines at c.loop-line.invariant.read in
    let few : length done ≤ 20000 = c.loop-line.invariant.few in
    let same : vec_len c.loop-line.events ≡ length done = c.loop-line.events.ok.0 in
    let len : c.len-in-Some.result ≡ length done = c.len-in-Some.ensures ∙ same in
    let below : n ≤ 20001 = omega (arith, few, same, c.len.ensures, c.if-len-eq-MAX_EVENTS.false) in
    let event = c.in_ok-event_at.field-0 in
    let more : length (done ++ event ∷ []) ≡ length done + 1 = length-append done (event ∷ []) in
    let next : length (done ++ event ∷ []) + 2 ≡ suc n = omega (arith, more) in
    let works = rw len at c.in_ok-event_at.ensures in
    record {
      text = search rules;
      few = rw c.in_ok-push.ensures.items (omega (arith, more, below));
      read = rw (c.in_ok-push.ensures.items, next)
          (line_works plan done n c.in-Some.line.now _ event _ below read works);
    }

pub returns : goal.returns
returns g c =
    let read = rw c.in_default.ensures.lines at c.loop-line.invariant.read in
    lines_end (plan_in c.args.setup.now) c.loop-line.events.items _ _ read
