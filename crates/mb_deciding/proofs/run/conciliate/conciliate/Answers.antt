-- Proof of `conciliate`: runs one conciliator for m values.
use Rattle.std.proofs.Common.{◌≡◌, ◌≤◌, ℕ, List, Option, Result, IfOk, slice_index, refl, sym, ◌∙◌, subst, arith}
use Rattle.std.proofs.lemmas.List.{map-id}
use Rattle.std.proofs.lemmas.Result.{IfOk-weaker}
use Rattle.mb_quorum.specs.Quorum.{QuorumTable}
use Rattle.mb_quorum.specs.Width.{width_of}
use Rattle.mb_quorum.specs.WidthLaw.{width_is_least}
use Rattle.mb_deciding.specs.{Conciliator, Out, Entry, conciliator_of, setup_of, spread, IsTrace, bare_table}
use Rattle.mb_deciding.proofs.Conciliators.{valid}
use Rattle.mb_deciding.proofs.Owed.{bounded}
use Rattle.mb_deciding.proofs.run.conciliate.conciliate.Given
use Rattle.mb_deciding.proofs.run.conciliate.conciliate.Goals as goal

-- a result that is a trace is one for an equal last attempt and an equal schedule, too
named_by :
    {X E : Type 0} (t : QuorumTable) (s r : ℕ) (inputs : List ℕ) (schedule given : List (ℕ × ℕ))
    (entries : X → List Entry) (outs : X → List (Option Out)) (result : Result X E) → s ≡ r → schedule ≡ given
    → IfOk result (λ x. IsTrace (setup_of t (Conciliator s) inputs) schedule (entries x) (outs x))
    → IfOk result (λ x. IsTrace (setup_of t (Conciliator r) inputs) given (entries x) (outs x))
named_by t s r inputs schedule given entries outs result turns own answer =
    subst (λ n. IfOk result (λ x. IsTrace (setup_of t (Conciliator n) inputs) given (entries x) (outs x))) turns
    (subst (λ (xs : List (ℕ × ℕ)). IfOk result (λ x. IsTrace (setup_of t (Conciliator s) inputs) xs (entries x)
    (outs x))) own answer)

-- a result that is a trace is one over each table with m values
answer_trace :
    (g : Given.Over) (c : goal.After-trace g) (t : QuorumTable) → t.values ≡ c.args.m
    → IfOk c.trace.result
    (λ trace. IsTrace (setup_of t (Conciliator (spread c.args.m)) c.args.inputs.now) c.args.schedule.now
    trace.entries.items trace.outputs.items)
answer_trace g c t values =
    named_by t c.spread.result (spread c.args.m) c.args.inputs.now _ c.args.schedule.now (λ trace. trace.entries.items)
    (λ trace. trace.outputs.items) c.trace.result c.spread.ensures.exact (map-id c.args.schedule.now)
    (c.trace.ensures.trace t (values ∙ sym c.in_ok-values.ensures.same))

pub invariant_of-machine : goal.invariant_of-machine
invariant_of-machine g c =
    let m = c.args.m in
    let range = c.in_ok-values.ensures.range.0 refl in
    let small : width_of m ≤ 6 = (width_is_least m).least 6 (omega (arith, range.1)) in
    omega (arith, c.spread.ensures.exact)

pub returns-clause-trace : goal.returns-clause-trace
returns-clause-trace = answer_trace

pub returns-clause-validity : goal.returns-clause-validity
returns-clause-validity g c t values =
    IfOk-weaker c.trace.result _ _ (λ trace h. valid t (spread c.args.m) _ _ h.lawful) (answer_trace g c t values)

pub returns-clause-first_mover : goal.returns-clause-first_mover
returns-clause-first_mover g c t values =
    IfOk-weaker c.trace.result _ _ (λ trace h. c.first_movers_win.ensures (conciliator_of t (spread c.args.m) _)
    (spread c.args.m) _ refl h.lawful)
    (answer_trace g c t values)

pub returns-clause-bound : goal.returns-clause-bound
returns-clause-bound g c =
    IfOk-weaker c.trace.result _ _
    (λ trace h p. bounded (conciliator_of (bare_table c.args.m) (spread c.args.m)
    (slice_index c.args.inputs.now)) _ p h.lawful)
    (answer_trace g c (bare_table c.args.m) refl)
