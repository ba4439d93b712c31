-- What an end sent and received in all, and which channel it belongs to.
use Rattle.std.specs.Prelude.{◌≡◌, ◌<◌, ◌≤◌, ◌⊎◌, Bool, List, [], map, true, false, ℕ, IfSome, Option, is_some}
use Rattle.atomic_table.specs.declared.shared.Seat.{Seat}
use Rattle.mb_segment.specs.Vocabulary.{is_over}
use Rattle.mb_channel.specs.Types.{Homes, Knows, View}
use Rattle.mb_channel.specs.declared.place.Place.{Place}
use Rattle.mb_channel.specs.Deeds.{Deed}
use Rattle.mb_channel.specs.declared.end.End.{End}
use Rattle.mb_channel.specs.Closing.{KnowsEnd}
use Rattle.mb_channel.specs.declared.auditing.Audited.{Audited}
use Rattle.mb_channel.specs.Fates.{chair_after}
use Rattle.mb_channel.specs.Lengths.{chair_told}
use Rattle.mb_channel.specs.Inside.{Log, found_there, known_there, log_in, log_of_past, pass_there, told_in}

abbrev pub view_of : {T : Type 0} → End T → Knows T
view_of e = e.chair.me.0

-- the end that was told this length. Nothing else of it is new
abbrev pub end_told : {T : Type 0} → Option ℕ → End T → End T
end_told told e = record e { chair = chair_told told e.chair }

-- the end after this answer. Nothing else of it is new
abbrev pub end_after : {T : Type 0} → Audited T → End T → End T
end_after a e = record e { chair = chair_after a e.chair }

-- all calls by which the end sent a value, and all by which it received one, in order
abbrev pub sent_by : {T : Type 0} → End T → List (Deed T)
sent_by e = log_in (λ a. a.sent) (view_of e) (pass_there e.inside)

abbrev pub got_by : {T : Type 0} → End T → List (Deed T)
got_by e = log_in (λ a. a.got) (view_of e) (pass_there e.inside)

abbrev pub log_of : {T : Type 0} → End T → Log T
log_of e = record { number = (view_of e).number; name = (view_of e).name; sent = sent_by e; got = got_by e }

-- the logs of the ends that were given back to it
abbrev pub given_to : {T : Type 0} → End T → List (Log T)
given_to e = map log_of_past (view_of e).ended

-- it did nothing, and no end was given back to it
abbrev pub IsFresh : {T : Type 0} → End T → Type 0
IsFresh e = (sent_by e ≡ []) × (got_by e ≡ []) × ((view_of e).ended ≡ [])

abbrev pub AreOfOneChannel : {T : Type 0} → End T → End T → Type 0
AreOfOneChannel d e = e.chair.table_id ≡ d.chair.table_id

-- if it knew that the list is closed, that no sender is left, or how many segments there are for ever, it still does
abbrev pub StaysTold : {T : Type 0} → Knows T → Knows T → Type 0
StaysTold v w = (v.shut ≡ true → w.shut ≡ true) × (v.alone ≡ true → w.alone ≡ true)
    × (is_some v.last ≡ true → is_some w.last ≡ true)

-- where an end is, also while it owes something there: its chair, and what its pass of the segment knows, if it has one
pub record Standing (T : Type 0) : Type 0 where
  pub chair : Seat (Homes T) (Knows T)
  pub pass : Option (View T)

abbrev pub stand_of : {T : Type 0} → End T → Standing T
stand_of e = record { chair = e.chair; pass = pass_there e.inside }

-- it knows of all sends before this place, or, if b is true and it may receive, of all receives
abbrev pub knows : {T : Type 0} → Bool → Standing T → Place
knows b v = record { segment = v.chair.me.0.at; number = known_there b v.pass }

-- it has gone on, or is where it was. It never forgets a look, at its segment while it is there, or behind the last one.
-- Nor does it forget what it knows
abbrev pub IsLater : {T : Type 0} → Standing T → Standing T → Type 0
IsLater v w = (v.chair.me.0.found ≤ w.chair.me.0.found) × ((v.chair.me.0.at < w.chair.me.0.at)
    ⊎ ((v.chair.me.0.at ≡ w.chair.me.0.at) × (found_there v.pass ≤ found_there w.pass)
    × (known_there false v.pass ≤ known_there false w.pass) × (known_there true v.pass ≤ known_there true w.pass)))

-- the same end, later: no other was given back to it meanwhile, and it counts for as many senders and receivers
pub record IsOne {T : Type 0} (v w : Standing T) : Type 0 where
  pub list : w.chair.table_id ≡ v.chair.table_id
  pub number : w.chair.me.0.number ≡ v.chair.me.0.number
  pub name : w.chair.me.0.name ≡ v.chair.me.0.name
  pub ended : w.chair.me.0.ended ≡ v.chair.me.0.ended
  pub sends : w.chair.me.0.sends ≡ v.chair.me.0.sends
  pub receives : w.chair.me.0.receives ≡ v.chair.me.0.receives
  pub told : StaysTold v.chair.me.0 w.chair.me.0
  pub later : IsLater v w

abbrev pub IsSame : {T : Type 0} → End T → End T → Type 0
IsSame old new = IsOne (stand_of old) (stand_of new)

-- the view of an end that left its segment: the end is the same, and it counts for as many
pub record IsLeft {T : Type 0} (old new : Knows T) : Type 0 where
  pub number : new.number ≡ old.number
  pub name : new.name ≡ old.name
  pub ended : new.ended ≡ old.ended
  pub rights : new.rights ≡ old.rights
  pub sends : new.sends ≡ old.sends
  pub receives : new.receives ≡ old.receives
  pub told : (new.alone ≡ old.alone) × (new.shut ≡ old.shut) × (new.last ≡ old.last)

-- it was told that it is behind the last segment, for ever: each send and receive answers "closed"
abbrev pub IsBehind : {T : Type 0} → End T → Type 0
IsBehind e = (e.behind ≡ true) × KnowsEnd (view_of e)

-- it was told how many segments there are, for ever. Each is over
abbrev pub HasEnded : {T : Type 0} → End T → Type 0
HasEnded e = is_some (view_of e).last ≡ true

-- in the segment where the end is, nothing can be sent any more
abbrev pub SawOver : {T : Type 0} → End T → Type 0
SawOver e = IfSome e.inside (λ i. is_over i.pass.seat.me.0 ≡ true)

-- and no value can come any more
abbrev pub IsOver : {T : Type 0} → End T → Type 0
IsOver e = IfSome e.inside (λ i. told_in i ≡ true)
