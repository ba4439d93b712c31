-- What a call does to the end that a handle leads to.
use Rattle.std.specs.Prelude.{◌≡◌, ◌⊎◌, ◌≤◌, ℕ, Option, Some, true}
use Rattle.mb_channel.specs.declared.held.Held.{Held}
use Rattle.mb_channel.specs.declared.held.Held.TheVariants as held
use Rattle.mb_channel.specs.declared.try_sends.Owing.{Owing}
use Rattle.mb_channel.specs.Ends.{AreOfOneChannel, IsBehind, IsFresh, IsSame, Standing, end_told, got_by, log_of, stand_of, view_of}
use Rattle.mb_channel.specs.Kept.{IsKeptBehind, IsKeptFresh, IsSettled, kept_told, log_kept, stand_kept, wakes_kept}
use Rattle.mb_channel.specs.Receives.{FoundNone, SawEmpty}
use Rattle.mb_channel.specs.Standing.{HasCut, NoMore, OneGot, got_in, sent_in, stand_with}
use Rattle.mb_channel.specs.Wakes.{Tells, Wakes, wakes_of, wakes_with}
use Rattle.hazbultra_channel.specs.declared.codes.TheConstants.{CLOSED, CROWDED, NO_MEMORY}
use Rattle.hazbultra_channel.specs.declared.thing.Thing.{Thing}
use Rattle.hazbultra_channel.specs.declared.thing.Thing.TheVariants.{OfEnd}
use Rattle.hazbultra_channel.specs.declared.thing.WakeOut.{WakeOut}

-- where the end is, and what it did
abbrev pub stand_held : {T : Type 0} → Held T → Standing T
stand_held (held.OfSender k) = stand_kept k
stand_held (held.OfReceiver r) = stand_of r.end
stand_held (held.OfLeaving l) = stand_with l.debtor
stand_held (held.OfAsleep a) = stand_with a.debtor
stand_held (held.OfDeparting d) = stand_of d.end
stand_held (held.OfCutter c) = stand_with c.debtor

-- the number of its segment, where a thread is to be woken
abbrev pub place_held : {T : Type 0} → Held T → ℕ
place_held h = (stand_held h).chair.me.0.at

-- the tokens that it gave, and for how many of them its caller is still to be told to wake a thread
abbrev pub wakes_held : {T : Type 0} → Held T → Wakes
wakes_held (held.OfSender k) = wakes_kept k
wakes_held (held.OfReceiver r) = wakes_of r.end
wakes_held (held.OfLeaving l) = wakes_with l.debtor
wakes_held (held.OfAsleep a) = wakes_with a.debtor
wakes_held (held.OfDeparting d) = wakes_of d.end
wakes_held (held.OfCutter c) = wakes_with c.debtor

-- it neither owes anything nor sleeps
abbrev pub IsAtRest : {T : Type 0} → Held T → Type 0
IsAtRest (held.OfSender k) = IsSettled k
IsAtRest (held.OfReceiver r) = Unit {0}
IsAtRest (held.OfLeaving l) = ⊥
IsAtRest (held.OfAsleep a) = ⊥
IsAtRest (held.OfDeparting d) = Unit {0}
IsAtRest (held.OfCutter c) = ⊥

-- it sleeps in the list of those that wait, so the law of sleep covers it
abbrev pub IsAsleep : {T : Type 0} → Held T → Type 0
IsAsleep (held.OfAsleep a) = Unit {0}
IsAsleep _ = ⊥

-- any end, whatever it owes
abbrev pub IsEnd : {T : Type 0} → Held T → Type 0
IsEnd h = Unit {0}

-- a sender that does not go, with or without something owed
abbrev pub IsSending : {T : Type 0} → Held T → Type 0
IsSending (held.OfSender k) = Unit {0}
IsSending _ = ⊥

-- a receiver that does not go, also one that sleeps
abbrev pub IsReceiving : {T : Type 0} → Held T → Type 0
IsReceiving (held.OfReceiver r) = Unit {0}
IsReceiving (held.OfLeaving l) = Unit {0}
IsReceiving (held.OfAsleep a) = Unit {0}
IsReceiving _ = ⊥

-- it counts for no sender any more. It is to see that all segments are over before it has gone exactly if it knows that no sender is left
abbrev pub HasRetired : {T : Type 0} → Held T → Type 0
HasRetired (held.OfDeparting d) = ((view_of d.end).sends ≡ 0) × (d.last ≡ (view_of d.end).alone)
HasRetired (held.OfCutter c) = (c.debtor.chair.me.0.sends ≡ 0) × (c.debtor.chair.me.0.alone ≡ true)
HasRetired h = ⊥

-- it was told that the channel is closed, for ever
abbrev pub WasTold : {T : Type 0} → Held T → Type 0
WasTold (held.OfSender k) = IsKeptBehind k
WasTold (held.OfReceiver r) = IsBehind r.end
WasTold _ = ⊥

-- a sender that was told so, and a receiver
abbrev pub SendsInVain : {T : Type 0} → Held T → Type 0
SendsInVain h = IsSending h × WasTold h

abbrev pub ReceivesInVain : {T : Type 0} → Held T → Type 0
ReceivesInVain h = IsReceiving h × WasTold h

-- nothing was sent or received, and the caller was told to wake n threads
abbrev pub OnlyTold : {T : Type 0} → ℕ → Held T → Held T → Type 0
OnlyTold n h k = NoMore (stand_held h) (stand_held k) × Tells n (wakes_held h) (wakes_held k)

-- ---- what a handle leads to
-- a handle leads to an end for which R holds
abbrev pub EndMade : (Held ℕ → Type 0) → Option Thing → Type 0
EndMade R (Some (OfEnd s)) = R s.held
EndMade R _ = ⊥

-- both lead to an end, and R holds of the two: one handle before a call and after it, or two handles
abbrev pub EndWent : (Held ℕ → Held ℕ → Type 0) → Option Thing → Option Thing → Type 0
EndWent R (Some (OfEnd s)) (Some (OfEnd t)) = R s.held t.held
EndWent R _ _ = ⊥

-- ---- what a caller is told to do
-- one thread to wake at most, and something owed or not
abbrev pub IsWake : WakeOut → Type 0
IsWake w = (w.threads ≤ 1) × (w.owes ≤ 1)

-- no thread to wake, and nothing owed
abbrev pub IsNoWake : WakeOut → Type 0
IsNoWake w = (w.threads ≡ 0) × (w.owes ≡ 0)

-- the code of a refusal
abbrev pub IsRefusal : ℕ → Type 0
IsRefusal code = (code ≡ NO_MEMORY) ⊎ (code ≡ CLOSED) ⊎ (code ≡ CROWDED)

-- it paid: it did nothing else, its caller was told to wake n threads, and it still sends, receives or goes. It does not
-- sleep
abbrev pub HasPaid : {T : Type 0} → ℕ → Held T → Held T → Type 0
HasPaid n h k = OnlyTold n h k × (IsSending h → IsSending k) × (IsReceiving h → IsReceiving k)
    × (IsAsleep k → ⊥)

-- the same of a sender that owed something
abbrev pub OwedPaid : {T : Type 0} → ℕ → Owing T → Held T → Type 0
OwedPaid n o k = NoMore (stand_with o.debtor) (stand_held k) × Tells n (wakes_with o.debtor) (wakes_held k) × IsSending k
    × (IsAsleep k → ⊥)

-- ---- ends that are made
-- the handles lead to a sender and a receiver of one channel, which did nothing yet
abbrev pub AreNew : Held ℕ → Held ℕ → Type 0
AreNew (held.OfSender k) (held.OfReceiver r) = (r.end.chair.table_id ≡ k.chair.table_id) × IsKeptFresh k × IsFresh r.end
AreNew h k = ⊥

-- the second handle leads to an end that did nothing yet, of the same kind and channel as the first one's
abbrev pub IsAnother : Held ℕ → Held ℕ → Type 0
IsAnother (held.OfSender k) (held.OfSender l) = (l.chair.table_id ≡ k.chair.table_id) × IsSettled k × IsKeptFresh l
IsAnother (held.OfReceiver r) (held.OfReceiver q) = AreOfOneChannel r.end q.end × IsFresh q.end
IsAnother h k = ⊥

-- the end has sent and received what it had
abbrev pub StaysSo : {T : Type 0} → Held T → Held T → Type 0
StaysSo (held.OfSender k) (held.OfSender l) = (log_kept l ≡ log_kept k) × (IsSettled k → IsSettled l)
    × ((IsSettled k → ⊥) → l ≡ k)
StaysSo (held.OfReceiver r) (held.OfReceiver q) = log_of q.end ≡ log_of r.end
StaysSo h k = k ≡ h

-- ---- a receive that never goes to sleep
-- the receiver received x
abbrev pub Got : ℕ → Held ℕ → Held ℕ → Type 0
Got x (held.OfReceiver r) (held.OfReceiver q) = OneGot x (stand_of r.end) (stand_of q.end)
Got x h k = ⊥

-- it received nothing
abbrev pub GotNothing : {T : Type 0} → Held T → Held T → Type 0
GotNothing (held.OfReceiver r) (held.OfReceiver q) = IsSame r.end q.end × (got_by q.end ≡ got_by r.end)
GotNothing h k = k ≡ h

-- it sleeps. A receiver that did not sleep before looked, and nothing waited at that moment
abbrev pub FellAsleep : {T : Type 0} → Held T → Held T → Type 0
FellAsleep (held.OfReceiver r) (held.OfAsleep a) = SawEmpty (stand_of r.end) (stand_with a.debtor)
FellAsleep (held.OfAsleep a) (held.OfAsleep b) = Unit {0}
FellAsleep h k = ⊥

-- it looked, and nothing waited at that moment
abbrev pub FoundNothing : {T : Type 0} → Held T → Held T → Type 0
FoundNothing (held.OfReceiver r) (held.OfReceiver q) = SawEmpty (stand_of r.end) (stand_of q.end)
    ⊎ FoundNone (stand_of r.end) (stand_of q.end)
FoundNothing h k = ⊥

-- ---- a call that counts
-- a sender or a receiver was told that n values wait. Nothing else of it is new
abbrev pub ToldLength : {T : Type 0} → ℕ → Held T → Held T → Type 0
ToldLength n (held.OfSender k) (held.OfSender l) = l ≡ kept_told (Some n) k
ToldLength n (held.OfReceiver r) (held.OfReceiver q) = q.end ≡ end_told (Some n) r.end
ToldLength n h k = ⊥

-- ---- an end that goes
-- it sent and received nothing, and its caller was told to wake n threads. It does not sleep
abbrev pub IsGoing : {T : Type 0} → ℕ → Held T → Held T → Type 0
IsGoing n h k = (sent_in (stand_held k) ≡ sent_in (stand_held h)) × (got_in (stand_held k) ≡ got_in (stand_held h))
    × Tells n (wakes_held h) (wakes_held k) × (IsAsleep k → ⊥)

-- it is of the same channel. A sender still sends, or has retired, and then it stays so
abbrev pub Retires : {T : Type 0} → Held T → Held T → Type 0
Retires h k = ((stand_held k).chair.table_id ≡ (stand_held h).chair.table_id)
    × (IsSending h → IsSending k ⊎ HasRetired k) × (HasRetired h → HasRetired k)

-- it may go now: it neither owes anything nor sleeps, and no longer sends. It has cut all that it has to cut
abbrev pub MayGo : {T : Type 0} → Held T → Type 0
MayGo (held.OfReceiver r) = Unit {0}
MayGo (held.OfDeparting d) = HasCut d
MayGo _ = ⊥
