-- The desk of a channel, under its lock. It has the hub that issues the ends' passes, and counts the ends.
-- Word 0 is the lock: 1 while an end has it. Slot 0 has the desk.
use Rattle.std.specs.Prelude.{List, Option, Some, None, [], ℕ, Bool, false, true, nat_eq, ◌+◌, ◌-◌, ◌≤◌, ◌∷◌, ◌≡◌, ◌≢◌, ◌||◌, ◌⊎◌}
use mathlib.Core.Option.{none, some}
use lib.ListN.{get_elem?}
use Rattle.atomic_table.specs.Table.{Me, State, Step}
use Rattle.mb_ring.specs.Vocabulary.{blank, hub_view, new_hub, view_in, IsFree as IsFreePass}
use Rattle.mb_bounded.specs.Types.{Desk, Global, Knows, Pass, Ring, Seat, View}

-- ---- the desk
-- the hub of a ring that issued so many passes, and took none back
abbrev pub issued_so : {T : Type 0} → ℕ → View T
issued_so n = record new_hub { out = n }

-- its hub is this ring's, which issued a pass for each end that was ever made
abbrev pub IsDeskOf : {T : Type 0} → Ring T Global → Desk T → Type 0
IsDeskOf r d = (d.hub.seat.table_id ≡ r.table.shared.table_id) × (hub_view d.hub ≡ issued_so d.made)

-- a pass of the ring that did nothing
abbrev pub IsNewPass : {T : Type 0} → Ring T Global → Pass T → Type 0
IsNewPass r p = (p.seat.table_id ≡ r.table.shared.table_id) × (view_in p ≡ blank) × IsFreePass p

-- ---- the rule
abbrev pub total : {T : Type 0} → (Knows T → ℕ) → List (Knows T) → ℕ
total f [] = 0
total f (v ∷ vs) = f v + total f vs

-- for how many senders and receivers the ends count
abbrev pub sends : {T : Type 0} → Knows T → ℕ
sends v = v.sends

abbrev pub receives : {T : Type 0} → Knows T → ℕ
receives v = v.receives

-- so many send, and so many receive
abbrev pub AreCounted : {T : Type 0} → List (Knows T) → ℕ → ℕ → Type 0
AreCounted views m n = (m ≡ total sends views) × (n ≡ total receives views)

abbrev pub NobodyHolds : {T : Type 0} → List (Knows T) → Type 0
NobodyHolds {T} views = (id : ℕ) (v : Knows T) → get_elem? views id ≡ some v → v.holds ≡ false

abbrev pub Holds : {T : Type 0} → List (Knows T) → ℕ → Type 0
Holds {T} views id = (v : Knows T) × (get_elem? views id ≡ some v) × (v.holds ≡ true)

-- this end has the lock and no other has, and it knows the numbers
abbrev pub OneHolds : {T : Type 0} → List (Knows T) → ℕ → Type 0
OneHolds {T} views holder = Holds views holder × ((id : ℕ) (v : Knows T) → get_elem? views id ≡ some v
    → v.holds ≡ true → (id ≡ holder) × AreCounted views v.senders v.receivers)

abbrev pub OfficeState : Type 0 → Type 0
OfficeState T = State (Option (Desk T)) (Knows T)

-- nobody has the lock: the desk is in its slot, and has the numbers of all ends
abbrev pub IsFree : {T : Type 0} → Ring T Global → OfficeState T → Type 0
IsFree {T} r s = (d : Desk T) × (s.words ≡ 0 ∷ []) × (s.homes ≡ some (Some d) ∷ []) × IsDeskOf r d
    × AreCounted s.views d.senders d.receivers × NobodyHolds s.views

-- one end has the lock, and the slot is empty
abbrev pub IsHeld : {T : Type 0} → OfficeState T → Type 0
IsHeld s = (holder : ℕ) × (s.words ≡ 1 ∷ []) × (s.homes ≡ none ∷ []) × OneHolds s.views holder

-- what a view says is so
pub record Fits {T : Type 0} (r : Ring T Global) (views : List (Knows T)) (v : Knows T) : Type 0 where
  pub ring : v.ring ≡ r
  pub no_sender : v.no_sender ≡ true → total sends views ≡ 0
  pub no_receiver : v.no_receiver ≡ true → total receives views ≡ 0

pub record Keeps {T : Type 0} (r : Ring T Global) (s : OfficeState T) : Type 0 where
  pub lock : IsFree r s ⊎ IsHeld s
  pub fits : (id : ℕ) (v : Knows T) → get_elem? s.views id ≡ some v → Fits r s.views v

-- ---- the views
abbrev pub Sat : Type 0 → Type 0
Sat T = Me (Option (Desk T)) (Knows T)

abbrev pub knows : {T : Type 0} → Seat (Option (Desk T)) (Knows T) → Knows T
knows chair = chair.me.0

-- it counts for so many senders and receivers, and knows nothing more
abbrev pub newcomer : {T : Type 0} → Ring T Global → ℕ → ℕ → Knows T
newcomer r a b = record {
  ring = r;
  sends = a;
  receives = b;
  holds = false;
  looks = 0;
  senders = 0;
  receivers = 0;
  left_senders = 0;
  left_receivers = 0;
  no_sender = false;
  no_receiver = false;
}

-- the first end counts for a sender and a receiver
abbrev pub first_view : {T : Type 0} → Ring T Global → Knows T
first_view r = newcomer r 1 1

-- another end counts for so many of them in its place
abbrev pub splits_off : {T : Type 0} → ℕ → ℕ → Knows T → Knows T
splits_off a b v = record v { sends = v.sends - a; receives = v.receives - b }

abbrev pub locked : {T : Type 0} → Desk T → Knows T → Knows T
locked d v = record v { holds = true; looks = v.looks + 1; senders = d.senders; receivers = d.receivers }

-- it gives the desk back, and counts for as many more or less as that does. It still knows what it found
abbrev pub settled : {T : Type 0} → Desk T → Knows T → Knows T
settled d v = record v {
  sends = v.sends + d.senders - v.senders;
  receives = v.receives + d.receivers - v.receivers;
  holds = false;
  left_senders = d.senders;
  left_receivers = d.receivers;
  no_sender = v.no_sender || nat_eq d.senders 0;
  no_receiver = v.no_receiver || nat_eq d.receivers 0;
}

-- ---- the steps
-- what an end that takes the desk finds there
abbrev pub Finds : {T : Type 0} → Knows T → Desk T → Type 0
Finds v d = IsDeskOf v.ring d × (v.sends ≤ d.senders) × (v.receives ≤ d.receivers)

-- it may give back this desk: it retires no more than it counts for, and hires nobody where none was left
abbrev pub MayGive : {T : Type 0} → Knows T → Desk T → Type 0
MayGive v d = IsDeskOf v.ring d
    × (v.senders ≤ v.sends + d.senders) × (v.receivers ≤ v.receives + d.receivers)
    × (v.senders ≡ 0 → d.senders ≡ 0) × (v.receivers ≡ 0 → d.receivers ≡ 0)

abbrev pub takes_lock : {T : Type 0} → Step (Option (Desk T)) → Sat T → ℕ → Sat T → Type 0
takes_lock {T} st m r n = (r ≡ 0 → (d : Desk T) × (n ≡ (locked d m.0, (0, Some d) ∷ m.1)) × Finds m.0 d)
    × (r ≢ 0 → n ≡ m)

abbrev pub gives_lock : {T : Type 0} → Step (Option (Desk T)) → Sat T → ℕ → Sat T → Type 0
gives_lock {T} st m r n = (d : Desk T) × (m.1 ≡ (0, Some d) ∷ []) × (n ≡ (settled d m.0, []))

-- ---- the seats
-- the end has not the lock
abbrev pub IsReady : {T : Type 0} → Sat T → Type 0
IsReady m = (m.0.holds ≡ false) × (m.1 ≡ [])

-- it has the lock, and has taken the desk out of its slot
abbrev pub HasTaken : {T : Type 0} → Sat T → Type 0
HasTaken m = (m.0.holds ≡ true) × (m.1 ≡ (0, None) ∷ [])

-- it counts for as many, and for the same ring
abbrev pub IsAsBefore : {T : Type 0} → Knows T → Knows T → Type 0
IsAsBefore v w = (w.ring ≡ v.ring) × (w.sends ≡ v.sends) × (w.receives ≡ v.receives)

-- it took the lock once more, and left so many senders and receivers more than it found
abbrev pub HasHired : {T : Type 0} → ℕ → ℕ → Knows T → Knows T → Type 0
HasHired a b v w = (w.looks ≡ v.looks + 1)
    × (w.left_senders ≡ w.senders + a) × (w.left_receivers ≡ w.receivers + b)

-- it took the lock once more, and left so many fewer
abbrev pub HasRetired : {T : Type 0} → ℕ → ℕ → Knows T → Knows T → Type 0
HasRetired a b v w = (w.looks ≡ v.looks + 1)
    × (w.senders ≡ w.left_senders + a) × (w.receivers ≡ w.left_receivers + b)

-- it took the lock once more, found a desk with these numbers, and gave that back
abbrev pub HasCounted : {T : Type 0} → Knows T → Knows T → ℕ → ℕ → Type 0
HasCounted {T} v w m n =
    (d : Desk T) × (d.senders ≡ m) × (d.receivers ≡ n) × (w ≡ settled d (locked d v))
