-- A schedule runs on an object of any kind: what one more turn does, and the trace after all turns.
use Rattle.std.proofs.Common.{◌≡◌, ◌≢◌, ℕ, ◌<◌, cond, List, [], ◌∷◌, ◌++◌, Option, Some, None, inl, inr, sym, refl}
use Rattle.std.proofs.Common.{ap, ◌∙◌, subst, length, map, get_or, set, length-set, get_or-set_same, get_or-set_other}
use Rattle.std.specs.List.{All, cons_option}
use Rattle.std.proofs.lemmas.List.{length-map, get_or-map}
use Rattle.std.proofs.lemmas.Bool.{cases_eq, ne_eqb}
use Rattle.mb_deciding.specs.{Act, Access, Turn, Op, Out, Pc}
use Rattle.mb_deciding.specs.{InRatifier, Begin, Next, Entry, ObjectMemory, Object, ObjectSetup, object_in, ReadsLast}
use Rattle.mb_deciding.specs.{part, IsPath, IsObjectLawful, answer, PcIsAt, IsReached, act_of, seen_by}
use Rattle.mb_deciding.specs.{process_of, with_entry, history_from, history_of, HasEnded, IsOutputOf, IsEntryAfter}
use Rattle.mb_deciding.specs.{AreEntriesOf, IsTrace, IsTableFor, IsMemory, CourseState, IsCourse, out_of, next_from, come_to}
use Rattle.mb_deciding.specs.declared.access.Op.TheVariants as to
use Rattle.mb_deciding.specs.declared.place.pc.Next.TheVariants as leads
use Rattle.mb_deciding.specs.declared.trace.Entry.TheVariants as entry
use Rattle.mb_deciding.proofs.Histories.{own_turns}
use Rattle.mb_deciding.proofs.CourseTables.{place_unfinished}

-- ---- the entries of a longer schedule
-- one more turn and its entry add the entry's access, if it has one, to the history
pub history_from-push :
    (o : Object) (h : List Access) (schedule : List (ℕ × ℕ))
    (entries : List Entry) (turn : ℕ × ℕ) (e : Entry)
    → AreEntriesOf o schedule entries h
    → history_from (schedule ++ turn ∷ []) (entries ++ e ∷ []) h ≡ with_entry turn.1 e
    (history_from schedule entries h)
history_from-push o h [] [] turn e all = refl
history_from-push o h [] (y ∷ entries) turn e all = absurd all
history_from-push o h (x ∷ schedule) [] turn e all = absurd all
history_from-push o h (x ∷ schedule) (y ∷ entries) turn e all =
    history_from-push o (with_entry x.1 y h) schedule entries turn e all.2

-- if one more entry may come after the accesses of the others, all are entries of the schedule with its turn added
pub entries_push :
    (o : Object) (h : List Access) (schedule : List (ℕ × ℕ))
    (entries : List Entry) (turn : ℕ × ℕ) (e : Entry)
    → AreEntriesOf o schedule entries h → process_of e ≡ turn.0
    → IsEntryAfter o turn.1 e (history_from schedule entries h)
    → AreEntriesOf o (schedule ++ turn ∷ []) (entries ++ e ∷ []) h
entries_push o h [] [] turn e all is here = (is, here, tt)
entries_push o h [] (y ∷ entries) turn e all is here = absurd all
entries_push o h (x ∷ schedule) [] turn e all is here = absurd all
entries_push o h (x ∷ schedule) (y ∷ entries) turn e all is here =
    (all.0, all.1, entries_push o (with_entry x.1 y h) schedule entries turn e all.2 is here)

-- ---- what a turn does to the places of processes
-- an op that finds what the history leaves in its word is true to memory
pub reads_seen : (op : Op) (h : List Access) → ReadsLast (act_of op (seen_by op h)) h
reads_seen (to.Load reg) h = refl
reads_seen (to.Store reg value) h = tt
reads_seen (to.Exchange reg value) h = refl

-- a turn of process p leaves the part of another process as it is
other_turns : (p k : ℕ) (turn : Turn) (h : List Access) → k ≢ p
    → part k (record { process = p; turn = turn } ∷ h) ≡ part k h
other_turns p k turn h other =
    ap (λ b. cons_option (cond b (Some turn) None) (part k h)) (ne_eqb p k (λ e. other (sym e)))

-- a process at a place has no output
pub not_ended :
    (o : Object) → IsTableFor o.kind o.table → (h : List Access) (p : ℕ) (pc : Pc)
    → PcIsAt o.table o.kind (o.inputs p) pc (part p h)
    → HasEnded o p h → ⊥
not_ended o q h p pc at ended =
    place_unfinished o.table o.kind (o.inputs p) pc (part p h) (answer ended.0 ended.1) q at ended.2

-- a process whose part is a whole path has ended
path_ended :
    (o : Object) (h : List Access) (p : ℕ) (out : Out) → IsPath o.table o.kind (o.inputs p) (part p h) out
    → HasEnded o p h
path_ended o h p out path = (out.decided, out.value, path)

-- what a process has reached, a place or an output, says whether it has its output
pub reached_output :
    (o : Object) → IsTableFor o.kind o.table → (h : List Access) (p : ℕ) (next : Next)
    → IsReached o.table o.kind (o.inputs p) next (part p h) → IsOutputOf o p (out_of next) h
reached_output o q h p (leads.Go pc) r = not_ended o q h p pc r
reached_output o q h p (leads.Out out) r = r

-- `come_to` from a place is `next_from` that place: the output, if there is one, or else the place
pub comes_from : (out : Option Out) (pc : Pc) → come_to out (leads.Go pc) ≡ next_from out pc
comes_from None pc = refl
comes_from (Some x) pc = refl

-- what follows an access has the output of that access, or none if the access has none
pub out_from : (out : Option Out) (pc : Pc) → out_of (next_from out pc) ≡ out
out_from None pc = refl
out_from (Some x) pc = refl

-- ---- a run after one more turn
module _ (u : ObjectSetup) (schedule : List (ℕ × ℕ)) (state : CourseState) (run : IsCourse u schedule state) where
  -- the history of the run so far
  abbrev past : List Access
  past = history_of schedule state.entries

  -- a turn of a process that has its output adds the entry `Done`. The result is a run of the longer schedule
  pub course_done :
      (p word : ℕ) → HasEnded (object_in u) p past
      → IsCourse u (schedule ++ (p, word) ∷ [])
      (record { words = state.words; places = state.places; entries = state.entries ++ entry.Done p ∷ [] })
  course_done p word ended =
      let same : history_of (schedule ++ (p, word) ∷ []) (state.entries ++ entry.Done p ∷ []) ≡ past =
      history_from-push (object_in u) [] schedule state.entries (p, word) (entry.Done p) run.fits in
      record {
        fits = entries_push (object_in u) [] schedule state.entries (p, word) (entry.Done p) run.fits refl ended;
        lawful = rw same run.lawful;
        memory = rw same run.memory;
        processes = run.processes;
        within = run.within;
        reached = rw same run.reached;
      }

  -- if the run has a place for process p, the part of p has led to that place
  pub place_at :
      (p : ℕ) (x : Next) (pc : Pc) → p < length state.places → x ≡ get_or state.places p x → x ≡ leads.Go pc
      → PcIsAt u.table u.kind (get_or u.inputs p 0) pc (part p past)
  place_at p x pc below is go =
      subst (λ n. IsReached u.table u.kind (get_or u.inputs p 0) n (part p past)) (sym is ∙ go) (run.reached p x below)

  -- if the run has an output for process p, then p has ended
  pub ended_at :
      (p : ℕ) (x : Next) (out : Out) → p < length state.places → x ≡ get_or state.places p x → x ≡ leads.Out out
      → HasEnded (object_in u) p past
  ended_at p x out below is go =
      path_ended (object_in u) past p out
      (subst (λ n. IsReached u.table u.kind (get_or u.inputs p 0) n (part p past)) (sym is ∙ go)
      (run.reached p x below))

  -- a turn of a process that has not ended adds its access. The result is a run of the longer schedule
  pub course_accessed :
      IsTableFor u.kind u.table
      → (words : ObjectMemory) (p word : ℕ) (next : Next) (act : Act) → p < length state.places
      → (HasEnded (object_in u) p past → ⊥)
      → IsObjectLawful (object_in u) (record { process = p; turn = record { act = act; word = word } } ∷ past)
      → IsMemory words (record { process = p; turn = record { act = act; word = word } } ∷ past)
      → IsReached u.table u.kind (get_or u.inputs p 0) next (record { act = act; word = word } ∷ part p past)
      → IsCourse u (schedule ++ (p, word) ∷ []) (record {
        words = words;
        places = set state.places p next;
        entries = state.entries ++ entry.Access p act (out_of next) ∷ [];
      })
  course_accessed q words p word next act below unended lawful memory arrives =
      let input : ℕ → ℕ = λ k. get_or u.inputs k 0 in
      let turn : Turn = record { act = act; word = word } in
      let a : Access = record { process = p; turn = turn } in
      let e : Entry = entry.Access p act (out_of next) in
      let same : history_of (schedule ++ (p, word) ∷ []) (state.entries ++ e ∷ []) ≡ a ∷ past =
      history_from-push (object_in u) [] schedule state.entries (p, word) e run.fits in
      let arrived : IsReached u.table u.kind (input p) next (part p (a ∷ past)) =
      subst (λ turns. IsReached u.table u.kind (input p) next turns) (sym (own_turns a past)) arrives in
      record {
        fits = entries_push (object_in u) [] schedule state.entries (p, word) e run.fits refl
            (unended, reached_output (object_in u) q (a ∷ past) p next arrived);
        lawful = rw same lawful;
        memory = rw same memory;
        processes = length-set state.places p next ∙ run.processes;
        within = run.within;
        reached = rw same (λ k d inside.
            let old : k < length state.places = rw length-set at inside in
            elim (cases_eq k p) [
              | inl same_p ↦ subst (λ n. IsReached u.table u.kind (input n) (get_or (set state.places p next) n d)
                  (part n (a ∷ past))) (sym same_p) (rw (get_or-set_same state.places p next d below) arrived)
              | inr other ↦ (rw (get_or-set_other state.places p k next d other)
                  (subst (λ turns. IsReached u.table u.kind (input k) (get_or state.places k d) turns)
                  (sym (other_turns p k turn past other)) (run.reached k d old)))
            ]);
      }

  -- if the run has an output for a process, its history gives that output, and else the process has not ended
  course_outputs :
      IsTableFor u.kind u.table → (p : ℕ) (d : Option Out) → p < length (map out_of state.places)
      → IsOutputOf (object_in u) p (get_or (map out_of state.places) p d) past
  course_outputs q p d below =
      let first : Next = leads.Go (InRatifier (Begin 0)) in
      let inside : p < length state.places = rw length-map at below in
      rw (get_or-map out_of state.places p first d inside)
      (reached_output (object_in u) q past p (get_or state.places p first) (run.reached p first inside))

  -- the entries and outputs of a run are the trace of its schedule
  pub course_trace :
      IsTableFor u.kind u.table → All (λ turn. turn.0 < length u.inputs) schedule
      → IsTrace u schedule state.entries (map out_of state.places)
  course_trace q known =
      record {
        known = known;
        lawful = run.lawful;
        entries = run.fits;
        processes = length-map state.places out_of ∙ run.processes;
        outputs = course_outputs q;
      }
