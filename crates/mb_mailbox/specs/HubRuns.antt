-- A hub that issues or takes back several producers or consumers one after another, in the order of a list.
use Rattle.std.specs.Prelude.{List, [], ◌∷◌}
use Rattle.mb_mailbox.specs.Consumers.{ConsumerView}
use Rattle.mb_mailbox.specs.Hubs.{HubView, with_consumer, with_producer, with_taken_consumer, with_taken_producer}
use Rattle.mb_mailbox.specs.Producers.{ProducerView}

-- ---- what a hub issues: one for each element of the list
-- the hub after it has issued a producer for each element of the list
abbrev pub with_producers : {X : Type 0} → List X → HubView → HubView
with_producers [] h = h
with_producers (x ∷ xs) h = with_producers xs (with_producer h)

-- the hub after it has issued a consumer for each element of the list
abbrev pub with_consumers : {X : Type 0} → List X → HubView → HubView
with_consumers [] h = h
with_consumers (x ∷ xs) h = with_consumers xs (with_consumer h)

-- ---- what a hub takes back
-- the hub after it has taken back these producers
abbrev pub with_taken_producers : List ProducerView → HubView → HubView
with_taken_producers [] h = h
with_taken_producers (s ∷ ss) h = with_taken_producers ss (with_taken_producer s h)

-- the hub after it has taken back these consumers
abbrev pub with_taken_consumers : List ConsumerView → HubView → HubView
with_taken_consumers [] h = h
with_taken_consumers (s ∷ ss) h = with_taken_consumers ss (with_taken_consumer s h)
