use Rattle.std.proofs.Common.{ℕ, subst, sym, ◌≡◌}
use Rattle.std.specs.Prelude.{IfNone}
use Rattle.mb_channel.specs.declared.held.Held.TheVariants as held
use Rattle.hazbultra_channel.proofs.Told.{receiver_same, sender_same}
use Rattle.hazbultra_channel.proofs.counting.count.Goals as goal

-- src/counting.rt:38:1
pub returns-in-OfSender-clause-same : goal.returns-in-OfSender-clause-same
returns-in-OfSender-clause-same c = subst (λ h. IfNone c.try_len.result (held.OfSender c.try_len.new.self ≡ h))
    (sym c.in-OfSender.is) (sender_same c.try_len.result c.in-OfSender.kept c.try_len.new.self c.try_len.ensures.told)

-- src/counting.rt:38:1
pub returns-in-OfReceiver-clause-same : goal.returns-in-OfReceiver-clause-same
returns-in-OfReceiver-clause-same c =
    subst (λ h. IfNone c.try_len-in-OfReceiver.result (held.OfReceiver c.try_len-in-OfReceiver.new.self ≡ h))
    (sym c.in-OfReceiver.is) (receiver_same c.try_len-in-OfReceiver.result c.in-OfReceiver.receiver
    c.try_len-in-OfReceiver.new.self c.try_len-in-OfReceiver.ensures.told)
