-- What a call does to what an end sent and received in all, also while it owes something in its segment.
use Rattle.std.specs.Prelude.{◌≡◌, List, Some, true, false}
use Rattle.mb_channel.specs.declared.debtor.Debtor.{Debtor}
use Rattle.mb_channel.specs.declared.debtor.Step.{Step}
use Rattle.mb_channel.specs.declared.debtor.Step.TheVariants as step
use Rattle.mb_channel.specs.declared.departing.Departing.{Departing}
use Rattle.mb_channel.specs.declared.try_sends.Sending.{Sending}
use Rattle.mb_channel.specs.declared.try_sends.Sending.TheVariants as sending
use Rattle.mb_channel.specs.declared.channel.Refused.TheVariants.{Closed}
use Rattle.mb_channel.specs.Answers.{IfClosed}
use Rattle.mb_channel.specs.Deeds.{Deed, OneMore}
use Rattle.mb_channel.specs.Ends.{IsBehind, IsOne, SawOver, Standing, knows, stand_of, view_of}
use Rattle.mb_channel.specs.Inside.{log_in}

abbrev pub stand_with : {T : Type 0} → Debtor T → Standing T
stand_with d = record { chair = d.chair; pass = Some d.busy.pass.seat.me.0 }

abbrev pub sent_in : {T : Type 0} → Standing T → List (Deed T)
sent_in v = log_in (λ a. a.sent) v.chair.me.0 v.pass

abbrev pub got_in : {T : Type 0} → Standing T → List (Deed T)
got_in v = log_in (λ a. a.got) v.chair.me.0 v.pass

-- it sent nothing and received nothing
pub record NoMore {T : Type 0} (v w : Standing T) : Type 0 where
  pub one : IsOne v w
  pub sent : sent_in w ≡ sent_in v
  pub got : got_in w ≡ got_in v

-- it sent x, behind all sends that it knew of
pub record OneSent {T : Type 0} (x : T) (v w : Standing T) : Type 0 where
  pub one : IsOne v w
  pub sent : OneMore x (knows false v) (knows false w) (sent_in v) (sent_in w)
  pub got : got_in w ≡ got_in v

-- it received x, behind all receives that it knew of
pub record OneGot {T : Type 0} (x : T) (v w : Standing T) : Type 0 where
  pub one : IsOne v w
  pub sent : sent_in w ≡ sent_in v
  pub got : OneMore x (knows true v) (knows true w) (got_in v) (got_in w)

abbrev pub OfStep : {T : Type 0} → Step T → T → Standing T → Type 0
OfStep (step.Sent e) x v = OneSent x v (stand_of e)
OfStep (step.Owes d) x v = OneSent x v (stand_with d)
OfStep (step.Again e y) x v = NoMore v (stand_of e) × (y ≡ x)
OfStep (step.Over e y) x v = NoMore v (stand_of e) × (y ≡ x) × SawOver e

-- the value was sent, sent with something owed, or comes back: since another was first, or since it is refused. `Closed`
-- is told only if the list is closed
abbrev pub OfSending : {T : Type 0} → Sending T → T → Standing T → Type 0
OfSending (sending.Sent s) x v = OneSent x v (stand_of s.end)
OfSending (sending.Owes o) x v = OneSent x v (stand_with o.debtor)
OfSending (sending.Again s y) x v = NoMore v (stand_of s.end) × (y ≡ x)
OfSending (sending.Refused s n) x v = NoMore v (stand_of s.end) × (n.value ≡ x)
    × IfClosed n.why (IsBehind s.end × ((view_of s.end).shut ≡ true))

-- all is cut that this end has to cut: if no sender is left, it was told that it is behind the last segment
abbrev pub HasCut : {T : Type 0} → Departing T → Type 0
HasCut d = d.last ≡ true → IsBehind d.end

-- the send is refused, since the channel is closed
abbrev pub TellsClosed : {T : Type 0} → Sending T → Type 0
TellsClosed (sending.Sent s) = ⊥
TellsClosed (sending.Owes o) = ⊥
TellsClosed (sending.Again s y) = ⊥
TellsClosed (sending.Refused s n) = n.why ≡ Closed
