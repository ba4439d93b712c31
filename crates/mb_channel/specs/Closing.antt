-- What "closed" says of the segments, for ever.
use Rattle.std.specs.Prelude.{ℕ, List, Some, [], false, length, true, ◌<◌, ◌≡◌}
use mathlib.Core.Option.{some}
use lib.ListN.{get_elem?}
use Rattle.atomic_table.specs.Table.{State}
use Rattle.mb_segment.specs.Vocabulary.{IsOver, IsViewOf, Keeps, SegmentState, claimed_in, drawn_in, hub_view, is_over}
use Rattle.mb_channel.specs.Types.{Home, Homes, Knows, View}
use Rattle.mb_channel.specs.Homes.{IsDone, IsOver as IsKnownOver}

abbrev pub ListState : Type 0 → Type 0
ListState T = State (Homes T) (Knows T)

-- whatever state its table is in, if the hub knows this: nothing can be sent in the segment
abbrev pub IsClosedOff : {T : Type 0} → Home T → Type 0
IsClosedOff {T} h = (s : SegmentState T) → Keeps s → (n : ℕ) → IsViewOf s n (hub_view h.hub) → IsOver s

-- and nothing waits there
abbrev pub IsFinished : {T : Type 0} → Home T → Type 0
IsFinished {T} h = (s : SegmentState T) (k : Keeps s) (n : ℕ) → IsViewOf s n (hub_view h.hub)
    → IsOver s × (k.history.rest ≡ [])

-- ---- the segments at one moment
-- segment j is in the state `now j`, in which its hub knows what the list says of it, or more
abbrev pub AreStates : {T : Type 0} → (ℕ → SegmentState T) → List (Home T) → Type 0
AreStates {T} now hs = (j : ℕ) (h : Home T) → get_elem? hs j ≡ some h
    → Keeps (now j) × ((n : ℕ) × (w : View T) × IsViewOf (now j) n w
    × (IsDone h → w.over ≡ true) × (IsKnownOver h → is_over w ≡ true))

-- nothing waits in any of them
abbrev pub NoneWaits : {T : Type 0} → (ℕ → SegmentState T) → List (Home T) → Type 0
NoneWaits now hs = (j : ℕ) → j < length hs → drawn_in (now j) ≡ claimed_in (now j)

-- ---- what an end knows
-- it is behind the last segment, for ever: the list is closed, or else no sender is left
abbrev pub KnowsEnd : {T : Type 0} → Knows T → Type 0
KnowsEnd v = (v.last ≡ Some v.at) × (v.shut ≡ false → (v.alone ≡ true) × (v.sends ≡ 0))
