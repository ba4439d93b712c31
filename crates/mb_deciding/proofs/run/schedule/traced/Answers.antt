-- Proof of `traced`: the trace of a schedule that is not refused.
use Rattle.std.proofs.Common.{◌≡◌, ℕ, List, Option, map, take, sym, ap, ◌∙◌, subst, Ok, Err, IfOk, Result, length}
use Rattle.std.proofs.Common.{get_or, ◌<◌, arith}
use Rattle.std.proofs.lemmas.List.{take_all, length-map, get_or-map}
use Rattle.mb_deciding.specs.{Out, Entry, ObjectSetup, setup_of, CourseState, IsCourse, IsTableFor, out_of, IsTrace}
use Rattle.mb_deciding.proofs.Courses.{course_trace}
use Rattle.mb_deciding.proofs.CourseTables.{same_self, same_table}
use Rattle.mb_deciding.proofs.run.schedule.traced.Goals as goal

-- if P and Q together give R, and P and Q hold of an `Ok` result's value, R holds of it
if_ok : {X E : Type 0} (P Q R : X → Type 0) → ((x : X) → P x → Q x → R x) → (r : Result X E) → IfOk r P → IfOk r Q
    → IfOk r R
if_ok P Q R joins (Ok x) p q = joins x p q
if_ok P Q R joins (Err e) p q = tt

pub turn-requires-clause-process : goal.turn-requires-clause-process
turn-requires-clause-process g c =
    let turn = g.T.ScheduledTurn.turn in
    let item = c.turn-item.result in
    let at = c.loop-turn.turn-index in
    let inside : at < length (map turn c.args.schedule.now) = rw length-map c.loop-turn-test.true in
    let known = c.requires.processes at (turn item) inside in
    let same : get_or (map turn c.args.schedule.now) at (turn item) ≡ turn (get_or c.args.schedule.now at item) =
    get_or-map turn c.args.schedule.now at item (turn item) c.loop-turn-test.true in
    let own : (turn item).0 < length c.args.inputs.now =
    subst (λ (x : ℕ × ℕ). x.0 < length c.args.inputs.now) (same ∙ sym (ap turn c.turn-item.is)) known in
    let run = c.loop-turn.invariant _ (same_self (g.M.Machine.kind c.args.machine.now) _) in
    omega (arith, c.process.ensures, run.processes)

pub returns : goal.returns
returns g c t same =
    let kind = g.M.Machine.kind c.args.machine.now in
    let u : ObjectSetup = setup_of t kind c.args.inputs.now in
    let q : IsTableFor kind t = same_table kind t _ same (g.met.M.Machine.lawful c.args.machine.now) in
    let turns = map g.T.ScheduledTurn.turn c.args.schedule.now in
    let run : CourseState = c.loop-turn.run in
    let whole : map g.T.ScheduledTurn.turn (take c.loop-turn.turn-index c.args.schedule.now) ≡ turns =
    ap (λ xs. map g.T.ScheduledTurn.turn xs)
    (take_all c.loop-turn.turn-index c.args.schedule.now c.loop-turn-test.false) in
    let ran : IsCourse u turns run = subst (λ xs. IsCourse u xs run) whole (c.loop-turn.invariant t same) in
    let traced = course_trace u turns run ran q c.requires.processes in
    if_ok _ _ _ (λ trace es os.
    subst (λ (xs : List (Option Out)). IsTrace u turns trace.entries.items xs) (sym os)
    (subst (λ (xs : List Entry). IsTrace u turns xs (map out_of run.places)) (sym es) traced))
    c.finish.result c.finish.ensures.entries c.finish.ensures.outputs

pub turn-requires-clause-run : goal.turn-requires-clause-run
turn-requires-clause-run g c =
    (c.args.inputs.now, _, c.loop-turn.invariant _ (same_self (g.M.Machine.kind c.args.machine.now) _))
