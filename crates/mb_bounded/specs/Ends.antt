-- What an end did and saw, and which channel it belongs to.
use Rattle.std.specs.Prelude.{ℕ, true, ◌+◌, ◌<◌, ◌≡◌, ◌≤◌, ◌⊎◌}
use Rattle.mb_ring.specs.Vocabulary.{SawEmpty, SawFull, blank, did_cut, got_at, sent_at, view_in}
use Rattle.mb_bounded.specs.Types.{Account, Global, Ring, View, arc_value}
use Rattle.mb_bounded.specs.Desks.{knows}
use Rattle.mb_bounded.specs.declared.end.End.{End}
use Rattle.mb_bounded.specs.declared.end.Past.{Past}
use Rattle.mb_bounded.specs.declared.end.Receiver.{Receiver}
use Rattle.mb_bounded.specs.declared.end.Sender.{Sender}

-- ---- the channel
abbrev pub ring_of : {T : Type 0} → End T → Ring T Global
ring_of e = (arc_value e.hall).ring

-- no more values wait than that
abbrev pub bound_of : {T : Type 0} → End T → ℕ
bound_of e = (ring_of e).size

-- two ends of one channel
abbrev pub IsMate : {T : Type 0} → End T → End T → Type 0
IsMate a b = arc_value b.hall ≡ arc_value a.hall

-- the end that was given back is of this end's channel
abbrev pub IsPastOf : {T : Type 0} → End T → Past T → Type 0
IsPastOf e p = p.pass.seat.table_id ≡ (ring_of e).table.shared.table_id

-- the same end, later
abbrev pub IsOne : {T : Type 0} → End T → End T → Type 0
IsOne old new = (new.hall ≡ old.hall) × (new.pass.seat.id ≡ old.pass.seat.id)

-- the same end, which was not at the desk meanwhile: it made no end, and counts for as many
abbrev pub IsSame : {T : Type 0} → End T → End T → Type 0
IsSame old new = IsOne old new × (new.chair ≡ old.chair)

-- ---- what it did
abbrev pub view_of : {T : Type 0} → End T → View T
view_of e = view_in e.pass

-- the same end, which did nothing in the ring meanwhile
abbrev pub IsStill : {T : Type 0} → End T → End T → Type 0
IsStill old new = IsOne old new × (view_of new ≡ view_of old)

abbrev pub past_view : {T : Type 0} → Past T → View T
past_view p = p.pass.seat.me.0

abbrev pub account_of : {T : Type 0} → End T → Account T
account_of e = (view_of e).account

abbrev pub past_account : {T : Type 0} → Past T → Account T
past_account p = (past_view p).account

-- it did nothing in the ring, and was never at the desk
abbrev pub IsFresh : {T : Type 0} → End T → Type 0
IsFresh e = (view_of e ≡ blank) × ((knows e.chair).looks ≡ 0)

-- of two views of a pass: meanwhile it sent x, behind all that it had sent, and did nothing else
abbrev pub OneSent : {T : Type 0} → T → View T → View T → Type 0
OneSent x v w = (p : ℕ) × (w.account ≡ (sent_at p x v).account)

-- it received x, behind all that it had received, and did nothing else
abbrev pub OneGot : {T : Type 0} → T → View T → View T → Type 0
OneGot x v w = (p : ℕ) × (w.account ≡ (got_at p x v).account)

-- it neither sent nor received nor cut the ring
abbrev pub NoMore : {T : Type 0} → View T → View T → Type 0
NoMore v w = w.account ≡ v.account

-- it knows that the ring is cut: it cut the ring, or saw that this was done before. It did nothing else
abbrev pub HasCut : {T : Type 0} → View T → View T → Type 0
HasCut v w = (w.sight.cut ≡ true) × (NoMore v w ⊎ (w.account ≡ (did_cut v).account))

-- ---- what it was told
-- it counted that x values wait in a ring of n slots. It had loaded the number claimed, then the number drawn, and then
-- found as many claimed as before. Where none waited it saw that at one load, or that none ever will; and where n did
abbrev pub HasLooked : {T : Type 0} → ℕ → ℕ → View T → View T → Type 0
HasLooked n x v w = NoMore v w × (x ≡ 0 → SawEmpty v w ⊎ (w.over ≡ true))
    × (0 < x → w.sight.low + x ≡ w.sight.top) × (n ≤ x → SawFull n v w)

-- the ring is cut, so no more can be sent
abbrev pub IsClosed : {T : Type 0} → Sender T → Type 0
IsClosed s = (s.closed ≡ true) × ((view_of s.end).sight.cut ≡ true)

-- no value can come any more
abbrev pub IsOver : {T : Type 0} → Receiver T → Type 0
IsOver r = (r.over ≡ true) × ((view_of r.end).over ≡ true)
