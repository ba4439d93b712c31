-- The trace of a schedule: a schedule is a list of turns (process, random word), in the order of time.
use Rattle.std.specs.Prelude.{◌≡◌, ℕ, ◌<◌, List, [], ◌∷◌, map, length, slice_index_or, All, Some, None}
use Rattle.std.specs.Prelude.{Option, Bool}
use Rattle.mb_deciding.specs.OneObject.{Object, ObjectSetup, object_in}
use Rattle.mb_deciding.specs.Types.{Access, Out, Entry}
use Rattle.mb_deciding.specs.declared.trace.Entry.TheVariants as entry
use Rattle.mb_deciding.specs.Objects.{IsObjectLawful, HasOutput}

-- the process of an entry
abbrev pub process_of : Entry → ℕ
process_of (entry.Access process act out) = process
process_of (entry.Done process) = process

-- the history, with the entry's access in front, if it has one. That access has this random word
abbrev pub with_entry : ℕ → Entry → List Access → List Access
with_entry word (entry.Access process act out) h =
    record { process = process; turn = record { act = act; word = word } } ∷ h
with_entry word (entry.Done process) h = h

-- a history, and after it the accesses of the entries, each with the random word of its turn
abbrev pub history_from : List (ℕ × ℕ) → List Entry → List Access → List Access
history_from [] entries h = h
history_from (turn ∷ schedule) [] h = h
history_from (turn ∷ schedule) (e ∷ entries) h =
    history_from schedule entries (with_entry turn.1 e h)

-- the history of the entries of a schedule, each with the random word of its turn
abbrev pub history_of : List (ℕ × ℕ) → List Entry → List Access
history_of schedule entries = history_from schedule entries []

-- the turns of these processes, each with the random word 0
abbrev pub plain_schedule : List ℕ → List (ℕ × ℕ)
plain_schedule schedule = map (λ process. (process, 0)) schedule

-- the process has an output
abbrev pub HasEnded : Object → ℕ → List Access → Type 0
HasEnded o p h = (decided : Bool) × (u : ℕ) × HasOutput o p decided u h

-- this is the output of process p, or none if it has not ended
abbrev pub IsOutputOf : Object → ℕ → Option Out → List Access → Type 0
IsOutputOf o p None h = HasEnded o p h → ⊥
IsOutputOf o p (Some out) h = HasOutput o p out.decided out.value h

-- the entry may come after the history. It is an access of a process without an output, and says which output the
-- process then has, if any. Or it is `Done` of a process that has its output
abbrev pub IsEntryAfter : Object → ℕ → Entry → List Access → Type 0
IsEntryAfter o word (entry.Access process act out) h =
    (HasEnded o process h → ⊥)
    × IsOutputOf o process out (with_entry word (entry.Access process act out) h)
IsEntryAfter o word (entry.Done process) h = HasEnded o process h

-- there is one entry for each turn of the schedule. It is of that turn's process, and may come after the accesses of
-- the entries before it
abbrev pub AreEntriesOf : Object → List (ℕ × ℕ) → List Entry → List Access → Type 0
AreEntriesOf o [] [] h = Unit {0}
AreEntriesOf o [] (e ∷ entries) h = ⊥
AreEntriesOf o (turn ∷ schedule) [] h = ⊥
AreEntriesOf o (turn ∷ schedule) (e ∷ entries) h =
    (process_of e ≡ turn.0) × IsEntryAfter o turn.1 e h
    × AreEntriesOf o schedule entries (with_entry turn.1 e h)

-- The entries and outputs are what a schedule makes of one object. Each turn is of a process with an input, and has one
-- entry, of that process. The accesses are lawful for the object. An entry is `Done` exactly if the process has its
-- output. At the end `outs` has the output, or none, of each process with an input
pub record IsTrace (u : ObjectSetup) (schedule : List (ℕ × ℕ)) (es : List Entry)
    (outs : List (Option Out)) : Type 0 where
  pub known : All (λ turn. turn.0 < length u.inputs) schedule
  pub lawful : IsObjectLawful (object_in u) (history_of schedule es)
  pub entries : AreEntriesOf (object_in u) schedule es []
  pub processes : length outs ≡ length u.inputs
  pub outputs :
      (p : ℕ) (d : Option Out) → p < length outs
      → IsOutputOf (object_in u) p (slice_index_or outs p d) (history_of schedule es)
