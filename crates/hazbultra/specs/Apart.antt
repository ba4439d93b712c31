-- What a caller has to keep to when it hands a producer or a consumer back: equal ids mean one mailbox.
use Rattle.std.specs.Prelude.{Option, Some}
use Rattle.mb_bound.specs.Bound.{AreNamedApart, BoundHubView}
use Rattle.hazbultra.specs.declared.thing.Thing.{Thing}
use Rattle.hazbultra.specs.declared.thing.Thing.TheVariants.{OfConsumer, OfHub, OfProducer}

-- the hub's mailbox and that of the producer or consumer to which a handle leads have different ids, or are one. If the
-- handle leads to neither, nothing is asked
abbrev pub IsApartFrom : BoundHubView → Option Thing → Type 0
IsApartFrom h (Some (OfProducer p)) = AreNamedApart h.id h.mailbox p.id p.mailbox
IsApartFrom h (Some (OfConsumer s)) =
    AreNamedApart h.id h.mailbox s.consumer.id s.consumer.mailbox
IsApartFrom h _ = Unit {0}

-- if the first handle leads to a hub, what the second leads to is apart from that hub (`IsApartFrom`). Else nothing is
-- asked
abbrev pub AreApart : Option Thing → Option Thing → Type 0
AreApart (Some (OfHub h)) part = IsApartFrom h part
AreApart _ part = Unit {0}
