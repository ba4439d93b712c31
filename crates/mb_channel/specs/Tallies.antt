-- The numbers of ends, senders and receivers, and the end of the list.
use Rattle.std.specs.Prelude.{ℕ, suc, Bool, List, Some, false, true, length, if◌then◌else◌, ◌+◌, ◌-◌, ◌≡◌, ◌≢◌, ◌≤◌, ◌⊎◌}
use Rattle.atomic_table.specs.Table.{Step}
use Rattle.mb_channel.specs.Types.{Home, Homes, Knows}
use Rattle.mb_channel.specs.Homes.{IsNext, Sat, sends}

abbrev pub gets_number : {T : Type 0} → ℕ → Step (Homes T) → Sat T → ℕ → Sat T → Type 0
gets_number name st m r n = (id : ℕ) × (n ≡ (record m.0 { live = true; number = id; name = name }, m.1))

abbrev pub counts_more : {T : Type 0} → Knows T → Knows T
counts_more v = record v { rights = v.rights + 1 }

-- it counts for one sender or receiver more, or less. Whoever retires the last sender knows that
abbrev pub hires_sender : {T : Type 0} → Knows T → Knows T
hires_sender v = record v { sends = v.sends + 1 }

abbrev pub hires_receiver : {T : Type 0} → Knows T → Knows T
hires_receiver v = record v { receives = v.receives + 1 }

abbrev pub retires_sender : {T : Type 0} → Bool → Knows T → Knows T
retires_sender last v = record v { sends = v.sends - 1; alone = last }

abbrev pub retires_receiver : {T : Type 0} → Knows T → Knows T
retires_receiver v = record v { receives = v.receives - 1 }

-- an exchange of a number changes the view so. The number found is no less than what the end counts for
abbrev pub counting : {T : Type 0} → (Knows T → ℕ) → (ℕ → Knows T → Knows T) → Step (Homes T) → Sat T → ℕ → Sat T
    → Type 0
counting of f st m r n = (n.1 ≡ m.1) × (r ≡ st.first → n.0 ≡ f r m.0) × (r ≢ st.first → n.0 ≡ m.0) × (of m.0 ≤ r)

-- it saw that no sender is left, or that the list is closed
abbrev pub saw_none : {T : Type 0} → Knows T → Knows T
saw_none v = record v { alone = true }

abbrev pub saw_closed : {T : Type 0} → Knows T → Knows T
saw_closed v = record v { shut = true }

-- an exchange of the number of senders, for one more. If none is left, the end sees that. Else it knew of no such thing
abbrev pub hiring : {T : Type 0} → Step (Homes T) → Sat T → ℕ → Sat T → Type 0
hiring st m r n = (r ≡ 0 → (n.1 ≡ m.1) × (n.0 ≡ saw_none m.0) × (m.0.sends ≡ 0))
    × (r ≢ 0 → (m.0.alone ≡ false) × counting sends (λ _. hires_sender) st m r n)

-- it saw that the list is not closed. While it has the lock, that stays so
abbrev pub saw_open : {T : Type 0} → Knows T → Knows T
saw_open v = record v { is_open = v.holds }

-- it has the lock, and is behind the last segment
abbrev pub IsLast : {T : Type 0} → Knows T → Type 0
IsLast v = (v.holds ≡ true) × (length v.before ≡ v.at)

-- where an end goes on to. All before that is done, or the end is to send alone and that is the last segment
abbrev pub GoesOnTo : {T : Type 0} → Bool → List (Home T) → ℕ → Type 0
GoesOnTo true hs k = IsNext hs k
GoesOnTo false hs k = (suc k ≡ length hs) ⊎ ((length hs ≡ k) × IsNext hs k)

-- if it may receive there, it counts that
abbrev pub found_none : {T : Type 0} → Knows T → Knows T
found_none v = record v { found = if v.takes then suc v.found else v.found }

-- it saw that a sender is left. If it also saw that the list is not closed, nobody was told that the list never grows.
-- While it has the lock, that stays so: it may add a segment
abbrev pub saw_sender : {T : Type 0} → Knows T → Knows T
saw_sender v = record (found_none v) { may_add = v.is_open }

-- a load of the number of senders, by an end that has the lock and is behind the last segment. It counts that if a
-- sender is left. And a load of the mark
abbrev pub sees_senders : {T : Type 0} → Step (Homes T) → Sat T → ℕ → Sat T → Type 0
sees_senders st m r n = (n.1 ≡ m.1) × IsLast m.0 × (r ≡ 0 → (n.0 ≡ saw_none m.0) × (m.0.sends ≡ 0))
    × (r ≢ 0 → n.0 ≡ saw_sender m.0)

abbrev pub sees_mark : {T : Type 0} → Step (Homes T) → Sat T → ℕ → Sat T → Type 0
sees_mark st m r n = (n.1 ≡ m.1) × (r ≡ 0 → n.0 ≡ saw_closed m.0)
    × (r ≢ 0 → n.0 ≡ saw_open m.0)

-- the end that has the lock closes the list
abbrev pub closing : {T : Type 0} → Step (Homes T) → Sat T → ℕ → Sat T → Type 0
closing st m r n = (n.1 ≡ m.1) × (n.0 ≡ record m.0 { is_open = false; may_add = false; shut = true })

-- it is told that there are just n segments, for ever: it saw that the list is closed or that no sender is left. So each
-- of them is over
abbrev pub told_last : {T : Type 0} → ℕ → Knows T → Knows T
told_last n v = record v { last = Some n }

abbrev pub KnowsLast : {T : Type 0} → ℕ → Knows T → Knows T → Type 0
KnowsLast n v w = (w ≡ told_last n (saw_closed v)) ⊎ ((w ≡ told_last n (saw_none v)) × (v.sends ≡ 0))
