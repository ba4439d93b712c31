-- What each step tells its caller. `r` is the number found, `m` the seat before, `n` the seat after.
use Rattle.std.specs.Prelude.{List, None, Option, Some, ℕ, ◌%◌, ◌+◌, ◌<◌, ◌∷◌, ◌≡◌, ◌≢◌, ◌≤◌}
use Rattle.atomic_table.specs.Table.{Me, Step, rest}
use Rattle.mb_segment.specs.Types.{Duty, Event, View}
use Rattle.mb_segment.specs.Moves.{MaySend, MayTake, SawAllTaken, drew, ended, learns_drawn, learns_taken, marked_to, sees_cut, sees_empty, sees_full, sees_mark}
use Rattle.mb_segment.specs.Moves.{sees_taken, told, took, with_duty}

abbrev pub Sat : Type 0 → Type 0
Sat T = Me (Option T) (View T)

-- the slots held stay as they were
abbrev pub becomes : {T : Type 0} → Sat T → Sat T → View T → Type 0
becomes m n w = (n.0 ≡ w) × (n.1 ≡ m.1)

-- a step that always succeeds
abbrev pub always : {T : Type 0} → (ℕ → View T → View T) → Step (Option T) → Sat T → ℕ → Sat T → Type 0
always f st m r n = becomes m n (f r m.0)

-- an exchange
abbrev pub exchanging : {T : Type 0} → (View T → View T) → Step (Option T) → Sat T → ℕ → Sat T → Type 0
exchanging f st m r n = (r ≡ st.first → becomes m n (f m.0)) × (r ≢ st.first → becomes m n m.0)

-- the exchange that draws a position takes its slot, which is empty. The pass was told nothing that rules a draw out
abbrev pub drawing : {T : Type 0} → (Duty → Duty) → T → Step (Option T) → Sat T → ℕ → Sat T → Type 0
drawing f x st m r n =
    (r ≡ st.first → (n.0 ≡ with_duty f (drew st.first x m.0)) × (n.1 ≡ (st.first, None) ∷ m.1) × MaySend st.first m.0)
    × (r ≢ st.first → becomes m n m.0)

-- the same for a value that the proof picked
abbrev pub drawing_picked : {T : Type 0} → (Duty → Duty) → Option T → Step (Option T) → Sat T → ℕ → Sat T → Type 0
drawing_picked {T} f picked st m r n = (x : T) → picked ≡ Some x → drawing f x st m r n

-- the exchange that claims a position takes its slot, which has the value. The pass was not told that none can come
abbrev pub claiming : {T : Type 0} → (Duty → Duty) → Step (Option T) → Sat T → ℕ → Sat T → Type 0
claiming {T} f st m r n =
    (r ≡ st.first
    → (x : T) × (n.0 ≡ with_duty f (took st.first x m.0)) × (n.1 ≡ (st.first, Some x) ∷ m.1) × MayTake st.first m.0)
    × (r ≢ st.first → becomes m n m.0)

-- a step that gives the slot back
abbrev pub ending : {T : Type 0} → Step (Option T) → Sat T → ℕ → Sat T → Type 0
ending st m r n = (n.0 ≡ ended m.0) × (n.1 ≡ rest m.1)

-- a load of the number drawn, before a draw
abbrev pub asking : {T : Type 0} → Step (Option T) → Sat T → ℕ → Sat T → Type 0
asking st m r n =
    (9223372036854775808 ≤ r → becomes m n (sees_cut m.0))
    × (r < 9223372036854775808 → st.slots ≤ r → becomes m n (sees_full m.0))
    × (r < st.slots → becomes m n m.0)

-- a load of the number drawn, before a cut
abbrev pub seeing_cut : {T : Type 0} → Step (Option T) → Sat T → ℕ → Sat T → Type 0
seeing_cut st m r n =
    (9223372036854775808 ≤ r → becomes m n (sees_cut m.0)) × (r < 9223372036854775808 → becomes m n m.0)

-- a load of the number claimed, which is not below the position seen marked last
abbrev pub seeing_taken : {T : Type 0} → Step (Option T) → Sat T → ℕ → Sat T → Type 0
seeing_taken st m r n = becomes m n (sees_taken r m.0) × (marked_to m.0 ≤ r + 1)

-- a load of the number drawn, or claimed, that the pass learns of. It knew of no more
abbrev pub learning_drawn : {T : Type 0} → Step (Option T) → Sat T → ℕ → Sat T → Type 0
learning_drawn st m r n =
    becomes m n (learns_drawn (r % 9223372036854775808) m.0) × (m.0.known.drawn ≤ r % 9223372036854775808)

abbrev pub learning_taken : {T : Type 0} → Step (Option T) → Sat T → ℕ → Sat T → Type 0
learning_taken st m r n = becomes m n (learns_taken r m.0) × (m.0.known.taken ≤ r)

-- a load of the state of position k: not 0 once it is marked
abbrev pub seeing_mark : {T : Type 0} → ℕ → Step (Option T) → Sat T → ℕ → Sat T → Type 0
seeing_mark k st m r n = (r ≢ 0 → becomes m n (sees_mark k m.0)) × (r ≡ 0 → becomes m n m.0)

-- a load of the number drawn, after one of the number claimed: a value waits, or none does yet, or none ever will
abbrev pub looking : {T : Type 0} → (Duty → Duty) → (Duty → Duty) → Step (Option T) → Sat T → ℕ → Sat T → Type 0
looking none_yet none_ever st m r n =
    (m.0.sight.low < r % 9223372036854775808 → becomes m n m.0)
    × (r % 9223372036854775808 ≤ m.0.sight.low → r < st.slots
    → (w : List Event) × becomes m n (sees_empty r w (with_duty none_yet m.0)) × SawAllTaken n.0)
    × (r % 9223372036854775808 ≤ m.0.sight.low → st.slots ≤ r → becomes m n (told (with_duty none_ever m.0)))

-- a load of the list: nobody waits without a token, or some do
abbrev pub if_none_waits : {T : Type 0} → (Duty → Duty) → Step (Option T) → Sat T → ℕ → Sat T → Type 0
if_none_waits f st m r n =
    (r < 4294967296 → becomes m n (with_duty f m.0)) × (4294967296 ≤ r → becomes m n m.0)
