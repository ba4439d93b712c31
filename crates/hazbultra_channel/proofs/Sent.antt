-- What is done after a try to send in place.
use Rattle.std.proofs.Common.{arith, ℕ, None, Option, Some}
use Rattle.mb_channel.specs.declared.held.Held.{Held}
use Rattle.mb_channel.specs.Standing.{NoMore, OneSent}
use Rattle.mb_channel.specs.Wakes.{Tells}
use Rattle.mb_channel.proofs.Since.{sent_before, sent_since}
use Rattle.hazbultra_channel.specs.declared.thing.Thing.{Thing}
use Rattle.hazbultra_channel.specs.declared.thing.Thing.TheVariants.{OfEnd, OfNothing}
use Rattle.hazbultra_channel.specs.Ends.{EndWent, HasPaid, stand_held, wakes_held}

pub sent_further : (x n : ℕ) (h k : Held ℕ) (o : Option Thing) → NoMore (stand_held h) (stand_held k)
    → Tells 0 (wakes_held h) (wakes_held k)
    → EndWent (λ a b. OneSent x (stand_held a) (stand_held b) × Tells n (wakes_held a) (wakes_held b))
    (Some (OfEnd (record { held = k }))) o
    → EndWent (λ a b. OneSent x (stand_held a) (stand_held b) × Tells n (wakes_held a) (wakes_held b))
    (Some (OfEnd (record { held = h }))) o
sent_further x n h k None p w q = q
sent_further x n h k (Some OfNothing) p w q = q
sent_further x n h k (Some (OfEnd t)) p w q =
    (sent_since x (stand_held h) (stand_held k) (stand_held t.held) p q.0, (let y = q.1 in omega arith))

pub sent_paid : (x n : ℕ) (h k : Held ℕ) (o : Option Thing) → OneSent x (stand_held h) (stand_held k)
    → Tells 0 (wakes_held h) (wakes_held k) → EndWent (HasPaid n) (Some (OfEnd (record { held = k }))) o
    → EndWent (λ a b. OneSent x (stand_held a) (stand_held b) × Tells n (wakes_held a) (wakes_held b))
    (Some (OfEnd (record { held = h }))) o
sent_paid x n h k None p w q = q
sent_paid x n h k (Some OfNothing) p w q = q
sent_paid x n h k (Some (OfEnd t)) p w q =
    (sent_before x (stand_held h) (stand_held k) (stand_held t.held) p q.0.0, (let y = q.0.1 in omega arith))
