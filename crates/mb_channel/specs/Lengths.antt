-- How many values wait, as the hubs of the list count them, and an end that is told so.
use Rattle.std.specs.Prelude.{ℕ, zero, suc, ◌≡◌, ◌+◌, ◌≤◌, List, [], ◌∷◌, length, true, IfSome, None, Option, Some}
use Rattle.atomic_table.specs.Table.{Step}
use Rattle.atomic_table.specs.declared.shared.Seat.{Seat}
use Rattle.mb_segment.specs.Vocabulary.{IsViewOf, Keeps, SegmentState, claimed_in, drawn_in, hub_view}
use Rattle.mb_channel.specs.Types.{Home, Homes, Knows}
use Rattle.mb_channel.specs.Homes.{Sat, Stands, unlocked}

-- how many positions of the segment its hub knows to be drawn, and claimed
abbrev pub drawn_there : {T : Type 0} → Home T → ℕ
drawn_there h = (hub_view h.hub).known.drawn

abbrev pub taken_there : {T : Type 0} → Home T → ℕ
taken_there h = (hub_view h.hub).known.taken

-- in the first n segments
abbrev pub sum_to : {T : Type 0} → (Home T → ℕ) → ℕ → List (Home T) → ℕ
sum_to f zero hs = 0
sum_to f (suc n) [] = 0
sum_to f (suc n) (h ∷ hs) = f h + sum_to f n hs

-- in all
abbrev pub sum_of : {T : Type 0} → (Home T → ℕ) → List (Home T) → ℕ
sum_of f hs = sum_to f (length hs) hs

-- the hub looked how many positions are drawn or claimed, and did nothing else
abbrev pub HasLooked : {T : Type 0} → Home T → Home T → Type 0
HasLooked h g = (g.segment ≡ h.segment) × (hub_view g.hub ≡ record (hub_view h.hub) { known = (hub_view g.hub).known })

abbrev pub HaveLooked : {T : Type 0} → List (Home T) → List (Home T) → Type 0
HaveLooked [] [] = Unit {0}
HaveLooked [] (g ∷ gs) = ⊥
HaveLooked (h ∷ hs) [] = ⊥
HaveLooked (h ∷ hs) (g ∷ gs) = HasLooked h g × HaveLooked hs gs

-- as far as the hubs know, n values wait in the segments of the list
abbrev pub AreWaiting : {T : Type 0} → Homes T → ℕ → Type 0
AreWaiting l n = n + sum_of taken_there l.list.items ≡ sum_of drawn_there l.list.items

-- whatever state its table is in, if the hub knows this: so many positions are drawn and claimed, or more
abbrev pub IsKnown : {T : Type 0} → Home T → Type 0
IsKnown {T} h = (s : SegmentState T) → Keeps s → (n : ℕ) → IsViewOf s n (hub_view h.hub)
    → (drawn_there h ≤ drawn_in s) × (taken_there h ≤ claimed_in s)

-- a seat has the list, and hs were its segments. Since then hubs looked. If n is told, so many wait as far as they know
abbrev pub HasSummed : {T : Type 0} → List (Home T) → Option ℕ → List (ℕ × Homes T) → Type 0
HasSummed {T} hs told held = (l : Homes T) × (held ≡ (0, l) ∷ []) × (gs : List (Home T)) × Stands gs l
    × HaveLooked hs gs × IfSome told (λ n. AreWaiting l n)

-- ---- what an end is told
-- the lengths that it was told, and now this one, if it was told one
abbrev pub and_length : Option ℕ → List ℕ → List ℕ
and_length None ns = ns
and_length (Some n) ns = n ∷ ns

-- the view, and the chair, of an end that was told this. Nothing else of it is new
abbrev pub told_length : {T : Type 0} → Option ℕ → Knows T → Knows T
told_length told v = record v { lengths = and_length told v.lengths }

abbrev pub chair_told : {T : Type 0} → Option ℕ → Seat (Homes T) (Knows T) → Seat (Homes T) (Knows T)
chair_told told p = record p { me = (told_length told p.me.0, p.me.1) }

-- an end that has the lock gives it back, and is told this of the list that it gives back
abbrev pub gives_length : {T : Type 0} → Option ℕ → Step (Homes T) → Sat T → ℕ → Sat T → Type 0
gives_length told st m r n = (n ≡ (told_length told (unlocked m.0), [])) × (m.0.holds ≡ true) × HasSummed m.0.before told m.1
