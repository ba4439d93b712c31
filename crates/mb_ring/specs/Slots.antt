-- Which slot a position has, and what each slot holds. A ring has n slots. Position k has slot k % n, and so do k + n,
-- k + 2 n and so on. A slot's word is twice the first position of its lap, and 1 more while its own position is marked.
use Rattle.std.specs.Prelude.{List, None, Option, Some, slice_index, ℕ, ◌%◌, ◌*◌, ◌+◌, ◌<◌, ◌≡◌, ◌≤◌, ◌⊎◌}
use mathlib.Core.Option.{some}
use mathlib.Core.Option as maybe
use lib.ListN.{get_elem?}
use Rattle.mb_segment.specs.History.{Claim, Entry, History, all_entries, drawn, spot, taken}
use Rattle.mb_ring.specs.Types.{Half, Nothing, Reads, View, Writes}

-- the slots: none is out with a pass, some is at home and has a value or not
abbrev pub Homes : Type 0 → Type 0
Homes T = List (maybe.Option (Option T))

-- pass i has begun this, and not ended it
abbrev pub HasHalf : {T : Type 0} → List (View T) → ℕ → Half T → Type 0
HasHalf {T} views i half = (v : View T) × (get_elem? views i ≡ some v) × (v.half ≡ half)

-- The turn of the slot of position k: 2 k if the slot is free for k, or k is drawn and not marked; 2 k + 1 once k is
-- marked; 2 (k + n) once k is read. The word is less than the turn by twice the slot's number, so that it begins as 0
abbrev pub turn : ℕ → List ℕ → ℕ → ℕ
turn n states k = slice_index states (k % n) + 2 * (k % n)

-- the next n positions that nobody drew: the slot is free and empty; or it still is at the turn of a position before
abbrev pub Undrawn : {T : Type 0} → History T → ℕ → List ℕ → Homes T → Type 0
Undrawn h n states homes = (k : ℕ) → drawn h ≤ k → k < drawn h + n
    → ((turn n states k ≡ 2 * k) × (get_elem? homes (k % n) ≡ some (some None))) ⊎ ((n ≤ k) × (turn n states k < 2 * k))

-- a position drawn and not claimed: its drawer is still to mark it; or it is marked, and the slot has the entry's value
abbrev pub Waits : {T : Type 0} → List (View T) → ℕ → List ℕ → Homes T → ℕ → Entry T → Type 0
Waits views n states homes k e =
    ((turn n states k ≡ 2 * k) × HasHalf views e.by (Writes (spot k e.value)))
    ⊎ ((turn n states k ≡ 2 * k + 1) × (get_elem? homes (k % n) ≡ some (some (Some e.value))))

abbrev pub Waiting : {T : Type 0} → History T → List (View T) → ℕ → List ℕ → Homes T → Type 0
Waiting {T} h views n states homes = (k : ℕ) (e : Entry T) → taken h ≤ k → get_elem? (all_entries h) k ≡ some e
    → Waits views n states homes k e

-- a position claimed: its claimer is still to read the entry's value; or it is read, and the slot's turn has gone on
abbrev pub IsTaken : {T : Type 0} → List (View T) → ℕ → List ℕ → ℕ → Claim T → Type 0
IsTaken views n states k c =
    ((turn n states k ≡ 2 * k + 1) × HasHalf views c.to (Reads (spot k c.entry.value)))
    ⊎ (2 * (k + n) ≤ turn n states k)

abbrev pub Taken : {T : Type 0} → History T → List (View T) → ℕ → List ℕ → Type 0
Taken {T} h views n states = (k : ℕ) (c : Claim T) → get_elem? h.claims k ≡ some c → IsTaken views n states k c

-- what view i says that its pass has begun is true: the pass drew this position for this value, and has not marked it; or
-- it claimed the position, which has this value, and has not read it
abbrev pub HalfFits : {T : Type 0} → History T → ℕ → List ℕ → ℕ → Half T → Type 0
HalfFits h n states i Nothing = Unit {0}
HalfFits h n states i (Writes s) =
    (taken h ≤ s.at) × (get_elem? (all_entries h) s.at ≡ some record { by = i; value = s.value })
    × (turn n states s.at ≡ 2 * s.at)
HalfFits h n states i (Reads s) =
    ((by : ℕ) × (get_elem? h.claims s.at ≡ some record { entry = record { by = by; value = s.value }; to = i }))
    × (turn n states s.at ≡ 2 * s.at + 1)
