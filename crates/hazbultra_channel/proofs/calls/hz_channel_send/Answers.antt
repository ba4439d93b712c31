use Rattle.std.proofs.Common.{Option, Some, ap, subst, sym, ◌∙◌}
use Rattle.mb_channel.specs.declared.held.Held.TheVariants as held
use Rattle.mb_channel.specs.Standing.{OneSent}
use Rattle.mb_channel.specs.Wakes.{Tells}
use Rattle.hazbultra_channel.specs.declared.thing.Thing.{Thing}
use Rattle.hazbultra_channel.specs.declared.thing.Thing.TheVariants.{OfEnd}
use Rattle.hazbultra_channel.specs.Ends.{EndWent, stand_held, wakes_held}
use Rattle.hazbultra_channel.proofs.Sent.{sent_further, sent_paid}
use Rattle.hazbultra_channel.proofs.calls.hz_channel_send.Goals as goal

pub returns-in-Owes-clause-sent : goal.returns-in-Owes-clause-sent
returns-in-Owes-clause-sent c = λ done.
    subst (λ (o : Option Thing). EndWent (λ h k. OneSent c.args.value (stand_held h) (stand_held k)
    × Tells c.pay_there.new.wake.threads (wakes_held h) (wakes_held k)) o
    (Some c.pay_there.new.opened))
    (sym (c.in-Some.ensures.value ∙ ap (λ (x : Thing). Some x) (c.in-OfEnd.is
    ∙ ap (λ h. OfEnd (record { held = h })) c.in-OfSender.is)))
    (sent_paid c.args.value c.pay_there.new.wake.threads (held.OfSender c.in-OfSender.kept)
    (held.OfSender c.send_here.new.self) (Some c.pay_there.new.opened)
    c.in-Owes.ensures.answer c.in-Owes.ensures.wakes
    (c.pay_there.ensures.paid (λ e. c.pay_there.ensures.bad.0 e tt)))

pub returns-in-Back-clause-sent : goal.returns-in-Back-clause-sent
returns-in-Back-clause-sent c = λ done.
    subst (λ (o : Option Thing). EndWent (λ h k. OneSent c.args.value (stand_held h) (stand_held k)
    × Tells c.send_further.new.wake.threads (wakes_held h) (wakes_held k)) o
    (Some c.send_further.new.opened))
    (sym (c.in-Some.ensures.value ∙ ap (λ (x : Thing). Some x) (c.in-OfEnd.is
    ∙ ap (λ h. OfEnd (record { held = h })) c.in-OfSender.is)))
    (sent_further c.args.value c.send_further.new.wake.threads (held.OfSender c.in-OfSender.kept)
    (held.OfSender c.send_here.new.self) (Some c.send_further.new.opened)
    c.in-Back.ensures.answer.0 c.in-Back.ensures.wakes (c.send_further.ensures.sent done))
