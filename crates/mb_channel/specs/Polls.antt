-- What a receive that never waits came to.
use Rattle.std.specs.Prelude.{◌≡◌, ◌≢◌, true}
use Rattle.mb_channel.specs.declared.channel.Refused.{Refused}
use Rattle.mb_channel.specs.declared.debtor.Debtor.{Debtor}
use Rattle.mb_channel.specs.declared.end.Receiver.{Receiver}
use Rattle.mb_channel.specs.declared.heard.Heard.{Heard}
use Rattle.mb_channel.specs.declared.heard.Heard.TheVariants as heard
use Rattle.mb_channel.specs.declared.polls.Asleep.{Asleep}
use Rattle.mb_channel.specs.declared.polls.Polled.{Polled}
use Rattle.mb_channel.specs.declared.polls.Polled.TheVariants as polled
use Rattle.mb_channel.specs.declared.channel.Refused.TheVariants.{Closed, NoMemory}
use Rattle.mb_channel.specs.Ends.{Standing, stand_of}
use Rattle.mb_channel.specs.Standing.{NoMore, OneGot, stand_with}
use Rattle.mb_channel.specs.Work.{IsAwake, Sleeps}

abbrev pub OfLook : {T : Type 0} → Heard T → Standing T → Debtor T → Type 0
OfLook (heard.Value x) v d = OneGot x v (stand_with d) × IsAwake d.busy
OfLook heard.Asleep v d = NoMore v (stand_with d) × Sleeps d.busy
OfLook heard.Again v d = NoMore v (stand_with d) × IsAwake d.busy
OfLook heard.Over v d = NoMore v (stand_with d) × (d.busy.pass.seat.me.0.over ≡ true) × IsAwake d.busy

-- a value was received, perhaps with something owed. It sleeps. Nothing was received, perhaps with something owed. Or the
-- receive is refused
abbrev pub OfPolled : {T : Type 0} → Polled T → Standing T → (Asleep T → Type 0) → (Receiver T → Refused → Type 0) → Type 0
OfPolled (polled.Took r x) v sleeps refused = OneGot x v (stand_of r.end)
OfPolled (polled.TookOwing l x) v sleeps refused = OneGot x v (stand_with l.debtor)
OfPolled (polled.Sleeps a) v sleeps refused = NoMore v (stand_with a.debtor) × Sleeps a.debtor.busy × sleeps a
OfPolled (polled.Again r) v sleeps refused = NoMore v (stand_of r.end)
OfPolled (polled.Owes l) v sleeps refused = NoMore v (stand_with l.debtor)
OfPolled (polled.Refused r why) v sleeps refused = NoMore v (stand_of r.end) × refused r why

-- the receive is refused, since the channel is closed
abbrev pub PollClosed : {T : Type 0} → Polled T → Type 0
PollClosed (polled.Took r x) = ⊥
PollClosed (polled.TookOwing l x) = ⊥
PollClosed (polled.Sleeps a) = ⊥
PollClosed (polled.Again r) = ⊥
PollClosed (polled.Owes l) = ⊥
PollClosed (polled.Refused r why) = why ≡ Closed

-- no receive is refused for want of memory
abbrev pub IsNotForMemory : {T : Type 0} → Polled T → Type 0
IsNotForMemory (polled.Took r x) = Unit {0}
IsNotForMemory (polled.TookOwing l x) = Unit {0}
IsNotForMemory (polled.Sleeps a) = Unit {0}
IsNotForMemory (polled.Again r) = Unit {0}
IsNotForMemory (polled.Owes l) = Unit {0}
IsNotForMemory (polled.Refused r why) = why ≢ NoMemory
