-- Proof of `Course::turn`: adds one turn of a process, with the random word of this turn.
use Rattle.std.proofs.Common.{◌≡◌, ℕ, ◌<◌, List, ◌∷◌, get_or, set, length, ap, sym, ◌∙◌, subst, arith}
use Rattle.std.proofs.lemmas.List.{set-get_or}
use Rattle.mb_deciding.specs.{ObjectSetup, setup_of, object_in, ReadsLast, part, IsPrefix, CanFind, act_of}
use Rattle.mb_deciding.specs.{next_from, seen_by, CourseState, IsCourse, IsTableFor, history_of}
use Rattle.mb_deciding.proofs.Histories.{longer}
use Rattle.mb_deciding.proofs.Courses.{reads_seen, place_at, ended_at, not_ended, course_done, course_accessed, comes_from, out_from}
use Rattle.mb_deciding.proofs.CourseTables.{place_leads, place_finds, place_word, same_self, same_table}
use Rattle.mb_deciding.proofs.run.Course.turn.Goals as goal

-- if the states of two runs are equal, a process of the one is a process of the other
below_same : (state run : CourseState) (p : ℕ) → state ≡ run → p < length run.places → p < length state.places
below_same state run p same below = subst (λ (s : CourseState). p < length s.places) (sym same) below

-- if a state equals that of a run after a schedule, it is the state of a run after this schedule
course_same :
    (state run : CourseState) (u : ObjectSetup) (schedule : List (ℕ × ℕ)) → state ≡ run → IsCourse u schedule run
    → IsCourse u schedule state
course_same state run u schedule same of = subst (λ (s : CourseState). IsCourse u schedule s) (sym same) of

pub step-out-requires-clause-place : goal.step-out-requires-clause-place
step-out-requires-clause-place g c =
    let (inputs, schedule, run) = c.requires.run in
    let machine = c.args.machine.now in
    let u : ObjectSetup = setup_of (g.M.Machine.table machine) (g.M.Machine.kind machine) inputs in
    let p = c.args.process in (
      get_or inputs p 0,
      part p (history_of schedule c.self.inside.entries.items),
      place_at u schedule _ (course_same _ _ u schedule c.self.view_is run) p c.index_mut-next.result.now c.in-Go.pc
          (below_same _ _ p c.self.view_is c.requires.process) c.index_mut-next.ensures.value c.in-Go.is,
    )

pub step-out-requires-clause-may : goal.step-out-requires-clause-may
step-out-requires-clause-may g c op is =
    let t = g.M.Machine.table c.args.machine.now in
    let kind = g.M.Machine.kind c.args.machine.now in
    let (v, turns, at) = step-out-requires-clause-place g c in
    place_word t kind v c.in-Go.pc turns op (g.met.M.Machine.lawful c.args.machine.now) at is

pub shape_of-self-inside-in-Go : goal.shape_of-self-inside-in-Go
shape_of-self-inside-in-Go g c =
    sym (c.step-out.ensures _ (same_self (g.M.Machine.kind c.args.machine.now) _)).made.1

pub returns-in_ok-push-in-Out : goal.returns-in_ok-push-in-Out
returns-in_ok-push-in-Out g c = record {
  run = λ t inputs schedule same run.
      let u : ObjectSetup = setup_of t (g.M.Machine.kind c.args.machine.now) inputs in
      let own = course_same _ _ u schedule c.self.view_is run in
      let places = c.self.inside.places.items in
      let kept : set places c.args.process c.index_mut-next.result.now ≡ places =
      ap (set places c.args.process) c.index_mut-next.ensures.value
      ∙ set-get_or places c.args.process c.index_mut-next.result.now in
      rw (c.in_ok-push-in-Out.ensures.items, kept)
      (course_done u schedule _ own c.args.process c.args.word
      (ended_at u schedule _ own c.args.process c.index_mut-next.result.now c.in-Out.field-0
      (below_same _ _ c.args.process c.self.view_is c.requires.process) c.index_mut-next.ensures.value c.in-Out.is));
}

pub returns-in_ok-push-in-Go : goal.returns-in_ok-push-in-Go
returns-in_ok-push-in-Go g c = record {
  run = λ t inputs schedule same old.
      let kind = g.M.Machine.kind c.args.machine.now in
      let u : ObjectSetup = setup_of t kind inputs in
      let q : IsTableFor kind t = same_table kind t _ same (g.met.M.Machine.lawful c.args.machine.now) in
      let run = course_same _ _ u schedule c.self.view_is old in
      let h = history_of schedule c.self.inside.entries.items in
      let p = c.args.process in
      let below = below_same _ _ p c.self.view_is c.requires.process in
      let pc = c.in-Go.pc in
      let step = c.step-out.ensures t same in
      let op = step.op in
      let seen = step.seen in
      let access = step.made.0 in
      let input = λ (k : ℕ). get_or inputs k 0 in
      let at = place_at u schedule _ run p c.index_mut-next.result.now pc below
      c.index_mut-next.ensures.value c.in-Go.is in
      let found : seen ≡ seen_by op h = access.found h run.memory in
      let can : CanFind t pc op seen = rw found (place_finds t kind input h p pc op q run.lawful at step.is) in
      let prefix : IsPrefix t kind (input p) (record { act = act_of op seen; word = c.args.word } ∷ part p h) =
      rw found (place_leads t kind input h p pc op c.args.word q run.lawful at step.is) in
      let reads : ReadsLast (act_of op seen) h = rw found (reads_seen op h) in
      let inside : p < length inputs = omega (arith, below, run.processes) in
      let lawful = longer (object_in u) h p (record { act = act_of op seen; word = c.args.word }) run.lawful
      (run.within p inside)
      (access.small, omega arith) reads prefix in
      let out = c.step-out.result in
      let then = next_from out c.step-out.new.pc in
      let came : c.end.new.self ≡ then = c.end.ensures ∙ comes_from out c.step-out.new.pc in
      let ran = course_accessed u schedule _ run q _ p c.args.word then
      (act_of op seen) below (not_ended (object_in u) q h p pc at) lawful
      (access.memory h run.memory p c.args.word) (step.reached kind (input p) (part p h) at can) in
      rw (c.in_ok-push-in-Go.ensures.items, step.made.2, came) (rw (out_from out c.step-out.new.pc) at ran);
}
