use Rattle.std.proofs.Common.{is_some, ap, inr, IfErr}
use Rattle.std.specs.Prelude.{Err, Ok, Result}
use Rattle.mb_channel.specs.declared.channel.Refused.{Refused}
use Rattle.mb_channel.specs.declared.channel.Refused.TheVariants.{Closed, Crowded, NoMemory}
use Rattle.mb_channel.specs.declared.sends.NotSent.{NotSent}
use Rattle.mb_channel.specs.Answers.{IfClosed}
use Rattle.mb_channel.proofs.end.Receiver.give_back.Goals as goal

closed_then : (why : Refused) (p q : Type 0) → (p → q) → IfClosed why p → IfClosed why q
closed_then NoMemory p q f x = x
closed_then Closed p q f x = f x
closed_then Crowded p q f x = x

told_then : {A T : Type 0} (r : Result A (NotSent T)) (p q : Type 0) → (p → q) → IfErr r (λ e. IfClosed e.why p)
    → IfErr r (λ e. IfClosed e.why q)
told_then (Ok x) p q f y = y
told_then (Err e) p q f y = closed_then e.why p q f y

pub returns-clause-closed : goal.returns-clause-closed
returns-clause-closed g c = told_then c.send_behind-sent.result _ _
    (λ b. inr (c.give_sender.ensures.ended (ap is_some b.1.0))) c.send_behind-sent.ensures.closed
