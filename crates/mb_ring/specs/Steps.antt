-- What each step tells its caller. `r` is the number found, `m` the seat before, `n` the seat after.
use Rattle.std.specs.Prelude.{List, None, Option, Some, ℕ, ◌%◌, ◌*◌, ◌+◌, ◌<◌, ◌∷◌, ◌≡◌, ◌≢◌, ◌≤◌}
use Rattle.atomic_table.specs.Table.{Me, Step, rest}
use Rattle.mb_segment.specs.Moves.{owes_wake}
use Rattle.mb_ring.specs.Types.{Duty, Event, Room, Values, View, Want}
use Rattle.mb_ring.specs.Moves.{KnowsCut, KnowsOver, MaySend, MayTake, SawAllGot, SawAllTaken, drew, ended, marked_to, sees_cut, sees_drawn, sees_empty, sees_full, sees_mark}
use Rattle.mb_ring.specs.Moves.{sees_room, sees_taken, told, took, with_duty}

abbrev pub Sat : Type 0 → Type 0
Sat T = Me (Option T) (View T)

-- the slots held stay as they were
abbrev pub becomes : {T : Type 0} → Sat T → Sat T → View T → Type 0
becomes m n w = (n.0 ≡ w) × (n.1 ≡ m.1)

-- a step that always succeeds
abbrev pub always : {T : Type 0} → (View T → View T) → Step (Option T) → Sat T → ℕ → Sat T → Type 0
always f st m r n = becomes m n (f m.0)

-- an exchange
abbrev pub exchanging : {T : Type 0} → (View T → View T) → Step (Option T) → Sat T → ℕ → Sat T → Type 0
exchanging f st m r n = (r ≡ st.first → becomes m n (f m.0)) × (r ≢ st.first → becomes m n m.0)

-- the exchange that draws a position takes its slot, which is empty, and owes a wake to one that waits for values. The
-- pass was told nothing that rules a draw out
abbrev pub drawing : {T : Type 0} → (Duty → Duty) → T → Step (Option T) → Sat T → ℕ → Sat T → Type 0
drawing f x st m r n =
    (r ≡ st.first → (n.0 ≡ with_duty Room f (with_duty Values owes_wake (drew st.first x m.0)))
    × (n.1 ≡ (st.first % st.slots, None) ∷ m.1) × MaySend m.0)
    × (r ≢ st.first → becomes m n m.0)

-- the same for a value that the proof picked
abbrev pub drawing_picked : {T : Type 0} → (Duty → Duty) → Option T → Step (Option T) → Sat T → ℕ → Sat T → Type 0
drawing_picked {T} f picked st m r n = (x : T) → picked ≡ Some x → drawing f x st m r n

-- the exchange that claims a position takes its slot, which has the value, and owes a wake to one that waits for room.
-- The pass was not told that no value can come. If the exchange fails, the position was claimed before
abbrev pub claiming : {T : Type 0} → (Duty → Duty) → Step (Option T) → Sat T → ℕ → Sat T → Type 0
claiming {T} f st m r n =
    (r ≡ st.first
    → (x : T) × (n.0 ≡ with_duty Room owes_wake (with_duty Values f (took st.first x m.0)))
    × (n.1 ≡ (st.first % st.slots, Some x) ∷ m.1) × MayTake m.0)
    × (r ≢ st.first → becomes m n (sees_taken r m.0) × (st.first < r))

-- a store that gives the slot back
abbrev pub ending : {T : Type 0} → Step (Option T) → Sat T → ℕ → Sat T → Type 0
ending st m r n = (n.0 ≡ ended m.0) × (n.1 ≡ rest m.1)

-- a load of the number drawn, before a draw. Once the pass cut the ring, or was told that it is cut, or over, each finds it
-- cut
abbrev pub asking : {T : Type 0} → (Duty → Duty) → Step (Option T) → Sat T → ℕ → Sat T → Type 0
asking f st m r n =
    (9223372036854775808 ≤ r → becomes m n (sees_cut (with_duty Room f m.0)))
    × (r < 9223372036854775808 → becomes m n (sees_drawn r m.0) × (m.0.known.drawn ≤ r))
    × (KnowsCut m.0 → 9223372036854775808 ≤ r)

-- a load of the word of position k's slot, before a draw: the slot is free for k, or still at
-- an earlier turn, and then k is not of the first lap
abbrev pub seeing_room : {T : Type 0} → ℕ → Step (Option T) → Sat T → ℕ → Sat T → Type 0
seeing_room k st m r n =
    (2 * k ≤ r + 2 * (k % st.slots) → becomes m n (sees_room k m.0))
    × (r + 2 * (k % st.slots) < 2 * k → becomes m n m.0 × (k ≤ m.0.sight.top → st.slots ≤ k))

-- a load of the number claimed, after one of the number drawn: just as many values wait as there are slots, or the number
-- drawn that was loaded does not tell so
abbrev pub counting : {T : Type 0} → (Duty → Duty) → Step (Option T) → Sat T → ℕ → Sat T → Type 0
counting f st m r n =
    (r + st.slots ≤ m.0.sight.top
    → (w : List Event) × becomes m n (sees_full r w (with_duty Room f m.0)) × SawAllGot n.0)
    × (m.0.sight.top < r + st.slots → becomes m n (sees_taken r m.0)) × (r ≤ 4611686018427387904)
    × (m.0.known.taken ≤ r) × (m.0.known.drawn ≤ r + st.slots)

-- a load of the number drawn, which tells whether the ring is cut
abbrev pub seeing_cut : {T : Type 0} → (Duty → Duty) → (Duty → Duty) → Step (Option T) → Sat T → ℕ → Sat T → Type 0
seeing_cut cut open_ st m r n =
    (9223372036854775808 ≤ r → becomes m n (sees_cut (with_duty Room cut m.0)))
    × (r < 9223372036854775808 → becomes m n (with_duty Room open_ m.0))

-- a load of the number claimed, which is not below the position seen marked last
abbrev pub seeing_taken : {T : Type 0} → Step (Option T) → Sat T → ℕ → Sat T → Type 0
seeing_taken st m r n =
    becomes m n (sees_taken r m.0) × (marked_to m.0 ≤ r + 1) × (r ≤ 4611686018427387904) × (m.0.known.taken ≤ r)

-- a load of the word of position k's slot: whether k is marked. It is not if no value can come
abbrev pub seeing_mark : {T : Type 0} → ℕ → Step (Option T) → Sat T → ℕ → Sat T → Type 0
seeing_mark k st m r n =
    (2 * k < r + 2 * (k % st.slots) → becomes m n (sees_mark k m.0) × (k < 4611686018427387904))
    × (r + 2 * (k % st.slots) ≤ 2 * k → becomes m n m.0)
    × (KnowsOver m.0 → m.0.sight.low ≤ k → r + 2 * (k % st.slots) ≤ 2 * k)

-- a load of the number drawn, after one of the number claimed: the first position that was unclaimed is drawn; or no
-- value waits; or none ever will
abbrev pub looking : {T : Type 0} → (Duty → Duty) → (Duty → Duty) → Step (Option T) → Sat T → ℕ → Sat T → Type 0
looking none_yet none_ever st m r n =
    (m.0.sight.low < r % 9223372036854775808 → becomes m n (sees_drawn (r % 9223372036854775808) m.0))
    × (r % 9223372036854775808 ≤ m.0.sight.low → r < 9223372036854775808
    → (w : List Event) × becomes m n (sees_empty r w (with_duty Values none_yet m.0)) × SawAllTaken n.0
    × (m.0.known.drawn ≤ r))
    × (r % 9223372036854775808 ≤ m.0.sight.low → 9223372036854775808 ≤ r
    → becomes m n (told (with_duty Values none_ever m.0)))
    × (KnowsOver m.0 → (r % 9223372036854775808 ≤ m.0.sight.low) × (9223372036854775808 ≤ r))

-- a load of the list: nobody waits without a token, or some do
abbrev pub if_none_waits : {T : Type 0} → Want → (Duty → Duty) → Step (Option T) → Sat T → ℕ → Sat T → Type 0
if_none_waits q f st m r n =
    (r < 4294967296 → becomes m n (with_duty q f m.0)) × (4294967296 ≤ r → becomes m n m.0)

-- the word of a list
abbrev pub list_word : Want → ℕ
list_word Values = 2
list_word Room = 3
