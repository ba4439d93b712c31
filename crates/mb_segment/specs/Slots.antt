-- What each position's state word and slot hold. `names` has the name of each pass, 0 if it has none. A state is 0 until
-- the position is marked. Then it is 1 more than the name of the pass that marked it. A pass that reads the value adds
-- 2^32 times its own name.
use Rattle.std.specs.Prelude.{List, None, Option, Some, length, ℕ, ◌*◌, ◌+◌, ◌<◌, ◌∷◌, ◌≡◌, ◌≤◌, ◌⊎◌}
use mathlib.Core.Option.{some}
use mathlib.Core.Option as maybe
use lib.ListN.{get_elem?}
use Rattle.mb_segment.specs.Types.{Half, Nothing, Reads, View, Writes}
use Rattle.mb_segment.specs.History.{Claim, Entry, History, all_entries, drawn, spot, taken}

-- words that begin 64 bytes behind the one before
abbrev pub apart : List ℕ → List ℕ
apart words = 0 ∷ 0 ∷ 0 ∷ 0 ∷ 0 ∷ 0 ∷ 0 ∷ words

-- the words: how many are drawn, the list, how many are claimed, and the states
abbrev pub row : ℕ → ℕ → ℕ → List ℕ → List ℕ
row drawn taken list states = drawn ∷ apart (list ∷ apart (taken ∷ states))

-- the slots: none is out with a pass, some is at home and has a value or not
abbrev pub Homes : Type 0 → Type 0
Homes T = List (maybe.Option (Option T))

-- pass n has begun this, and not ended it
abbrev pub HasHalf : {T : Type 0} → List (View T) → ℕ → Half T → Type 0
HasHalf {T} views n half = (v : View T) × (get_elem? views n ≡ some v) × (v.half ≡ half)

-- a position that nobody drew: its state is 0, and its slot at home and empty
abbrev pub Undrawn : {T : Type 0} → History T → List ℕ → Homes T → Type 0
Undrawn h states homes = (k : ℕ) → drawn h ≤ k → k < length states
    → (get_elem? states k ≡ some 0) × (get_elem? homes k ≡ some (some None))

-- a position drawn and not claimed: its drawer is still to mark it; or it is marked, and the slot has the entry's value
abbrev pub Waits : {T : Type 0} → (ℕ → ℕ) → List (View T) → List ℕ → Homes T → ℕ → Entry T → Type 0
Waits names views states homes k e =
    ((get_elem? states k ≡ some 0) × HasHalf views e.by (Writes (spot k e.value)))
    ⊎ ((get_elem? states k ≡ some (names e.by + 1)) × (get_elem? homes k ≡ some (some (Some e.value))))

abbrev pub Waiting : {T : Type 0} → (ℕ → ℕ) → History T → List (View T) → List ℕ → Homes T → Type 0
Waiting {T} names h views states homes = (k : ℕ) (e : Entry T) → taken h ≤ k → get_elem? (all_entries h) k ≡ some e
    → Waits names views states homes k e

-- a position claimed: it is marked. Its claimer is still to read the entry's value; or it is read, and the slot is empty
abbrev pub IsTaken : {T : Type 0} → (ℕ → ℕ) → List (View T) → List ℕ → Homes T → ℕ → Claim T → Type 0
IsTaken names views states homes k c =
    ((get_elem? states k ≡ some (names c.entry.by + 1)) × HasHalf views c.to (Reads (spot k c.entry.value)))
    ⊎ ((get_elem? states k ≡ some (names c.entry.by + 1 + 4294967296 * names c.to))
    × (get_elem? homes k ≡ some (some None)))

abbrev pub Taken : {T : Type 0} → (ℕ → ℕ) → History T → List (View T) → List ℕ → Homes T → Type 0
Taken {T} names h views states homes = (k : ℕ) (c : Claim T) → get_elem? h.claims k ≡ some c
    → IsTaken names views states homes k c

-- what a pass has begun is so: it drew the position, which is not marked; or it claimed it, which is marked, and whose
-- state names no reader
abbrev pub HalfFits : {T : Type 0} → History T → List ℕ → ℕ → Half T → Type 0
HalfFits h states n Nothing = Unit {0}
HalfFits h states n (Writes s) =
    (taken h ≤ s.at) × (get_elem? (all_entries h) s.at ≡ some record { by = n; value = s.value })
    × (get_elem? states s.at ≡ some 0)
HalfFits h states n (Reads s) =
    ((by : ℕ) × (get_elem? h.claims s.at ≡ some record { entry = record { by = by; value = s.value }; to = n }))
    × ((w : ℕ) × (get_elem? states s.at ≡ some w) × (0 < w) × (w < 4294967296))
