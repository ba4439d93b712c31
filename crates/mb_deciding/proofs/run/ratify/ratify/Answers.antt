-- Proof of `ratify`: runs one ratifier for m values over the named table.
use Rattle.std.proofs.Common.{IfOk, get_or, refl, sym, subst}
use Rattle.std.proofs.lemmas.List.{map-id}
use Rattle.std.proofs.lemmas.Result.{IfOk-weaker}
use Rattle.mb_deciding.specs.{Ratifier, ratifier_of, setup_of, IsObjectLawful, RefusesOnlyFor, IsTrace}
use Rattle.mb_deciding.specs.{history_of, plain_schedule}
use Rattle.mb_quorum.specs.Quorum.{IsQuorumTable}
use Rattle.mb_quorum.specs.Tables.{table_of}
use Rattle.mb_quorum.specs.TablesLaw.{named_lawful}
use Rattle.mb_deciding.proofs.Refused.{refusal_in-of}
use Rattle.mb_deciding.proofs.run.ratify.ratify.Given
use Rattle.mb_deciding.proofs.run.ratify.ratify.Goals as goal

-- a result that is a trace is one over the named table
answer_trace : (g : Given.Over) (c : goal.After-trace g)
    → IfOk c.trace.result
    (λ trace. IsTrace (setup_of (table_of c.args.name c.args.m) Ratifier c.args.inputs.now)
    (plain_schedule c.args.schedule.now) trace.entries.items trace.outputs.items)
answer_trace g c = c.trace.ensures.trace (table_of c.args.name c.args.m) (sym c.in_ok-table.ensures.table)

-- the accesses of the trace are lawful for the named table
answer_lawful : (g : Given.Over) (c : goal.After-trace g)
    → IfOk c.trace.result
    (λ trace. IsObjectLawful (ratifier_of (table_of c.args.name c.args.m) (λ k. get_or c.args.inputs.now k 0))
    (history_of (plain_schedule c.args.schedule.now) trace.entries.items))
answer_lawful g c = IfOk-weaker c.trace.result _ _ (λ x trace. trace.lawful) (answer_trace g c)

-- the named table keeps the law of quorum tables
table_lawful : (g : Given.Over) (c : goal.After-trace g) → IsQuorumTable (table_of c.args.name c.args.m)
table_lawful g c = named_lawful c.args.name c.args.m (c.in_ok-table.ensures.range.0 refl).1

pub returns-clause-trace : goal.returns-clause-trace
returns-clause-trace = answer_trace

pub returns-clause-validity : goal.returns-clause-validity
returns-clause-validity g c =
    IfOk-weaker c.trace.result _ _ (λ trace. (c.objects_keep_their_promises.ensures (ratifier_of _ _)
    (table_lawful g c)).validity _)
    (answer_lawful g c)

pub returns-clause-coherence : goal.returns-clause-coherence
returns-clause-coherence g c =
    IfOk-weaker c.trace.result _ _ (λ trace. (c.objects_keep_their_promises.ensures (ratifier_of _ _)
    (table_lawful g c)).coherence _)
    (answer_lawful g c)

pub returns-clause-acceptance : goal.returns-clause-acceptance
returns-clause-acceptance g c =
    IfOk-weaker c.trace.result _ _ (λ trace. (c.ratifiers_decide_unless_contested.ensures (ratifier_of _ _)
    (table_lawful g c) refl).acceptance _)
    (answer_lawful g c)

pub returns-clause-contested : goal.returns-clause-contested
returns-clause-contested g c =
    IfOk-weaker c.trace.result _ _ (λ trace. (c.ratifiers_decide_unless_contested.ensures (ratifier_of _ _)
    (table_lawful g c) refl).contested _)
    (answer_lawful g c)

pub returns-clause-bound : goal.returns-clause-bound
returns-clause-bound g c =
    IfOk-weaker c.trace.result _ _ (λ trace h p. (c.objects_keep_their_promises.ensures (ratifier_of _ _)
    (table_lawful g c)).bounded _ p h)
    (answer_lawful g c)

pub returns-clause-refused : goal.returns-clause-refused
returns-clause-refused g c =
    let range = c.in_ok-table.ensures.range.0 refl in
    subst (λ reason. RefusesOnlyFor reason c.trace.result)
    (refusal_in-of c.args.m _ c.args.inputs.now c.args.schedule.now _ range.0 range.1 c.in_ok-table.ensures.values
    (map-id c.args.schedule.now)) c.trace.ensures.refused
