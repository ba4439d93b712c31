-- A sender that is kept in one place, whatever it owes: where it is, what it did, and what a try to send does to it.
use Rattle.std.specs.Prelude.{ℕ, ◌≡◌, ◌+◌, None, Option, Some, [], true}
use Rattle.mb_segment.specs.Vocabulary.{tokens_given}
use Rattle.mb_channel.specs.declared.busy.Busy.{Busy}
use Rattle.mb_channel.specs.declared.busy.Debt.TheVariants as owed
use Rattle.mb_channel.specs.declared.kept.KeptSender.{KeptSender}
use Rattle.mb_channel.specs.declared.posting.Posted.{Posted}
use Rattle.mb_channel.specs.declared.posting.Posted.TheVariants as posted
use Rattle.mb_channel.specs.Closing.{KnowsEnd}
use Rattle.mb_channel.specs.Ends.{Standing}
use Rattle.mb_channel.specs.Inside.{Log}
use Rattle.mb_channel.specs.declared.auditing.Audited.{Audited}
use Rattle.mb_channel.specs.Fates.{chair_after}
use Rattle.mb_channel.specs.Lengths.{chair_told}
use Rattle.mb_channel.specs.Places.{pass_at}
use Rattle.mb_channel.specs.Standing.{NoMore, OneSent, got_in, sent_in}
use Rattle.mb_channel.specs.Wakes.{Wakes, untold_of, wakes}

abbrev pub stand_kept : {T : Type 0} → KeptSender T → Standing T
stand_kept k = record { chair = k.chair; pass = pass_at k.busy }

-- all calls by which it sent a value or received one
abbrev pub log_kept : {T : Type 0} → KeptSender T → Log T
log_kept k = record {
  number = k.chair.me.0.number;
  name = k.chair.me.0.name;
  sent = sent_in (stand_kept k);
  got = got_in (stand_kept k);
}

abbrev pub gave_at : {T : Type 0} → Option (Busy T) → ℕ
gave_at None = 0
gave_at (Some b) = tokens_given b.pass.seat.me.0

abbrev pub untold_at : {T : Type 0} → Option (Busy T) → ℕ
untold_at None = 0
untold_at (Some b) = untold_of b.debt

abbrev pub wakes_kept : {T : Type 0} → KeptSender T → Wakes
wakes_kept k = wakes (k.chair.me.0.gave + gave_at k.busy) (untold_at k.busy)

-- the sender that was told this length. Nothing else of it is new
abbrev pub kept_told : {T : Type 0} → Option ℕ → KeptSender T → KeptSender T
kept_told told k = record k { chair = chair_told told k.chair }

-- the sender after this answer. Nothing else of it is new
abbrev pub kept_after : {T : Type 0} → Audited T → KeptSender T → KeptSender T
kept_after a k = record k { chair = chair_after a k.chair }

-- it owes nothing
abbrev pub OwesNothing : {T : Type 0} → Option (Busy T) → Type 0
OwesNothing None = Unit {0}
OwesNothing (Some b) = b.debt ≡ owed.Nothing

abbrev pub IsSettled : {T : Type 0} → KeptSender T → Type 0
IsSettled k = OwesNothing k.busy

-- it was told that it is behind the last segment, for ever: each send answers "closed"
abbrev pub IsKeptBehind : {T : Type 0} → KeptSender T → Type 0
IsKeptBehind k = (k.behind ≡ true) × KnowsEnd k.chair.me.0

-- it did nothing, no end was given back to it, and it owes nothing
abbrev pub IsKeptFresh : {T : Type 0} → KeptSender T → Type 0
IsKeptFresh k = (sent_in (stand_kept k) ≡ []) × (got_in (stand_kept k) ≡ []) × (k.chair.me.0.ended ≡ [])
    × IsSettled k

-- the value was sent and nothing is owed, or it was sent, or it comes back and nothing is owed, or it comes back
abbrev pub OfPosted : {T : Type 0} → Posted T → T → Standing T → Standing T → Type 0 → Type 0
OfPosted posted.Sent x v w rest = OneSent x v w × rest
OfPosted posted.Owes x v w rest = OneSent x v w
OfPosted (posted.Again y) x v w rest = NoMore v w × (y ≡ x) × rest
OfPosted (posted.Back y) x v w rest = NoMore v w × (y ≡ x)
