-- What a call does to what its handles lead to, a consumer's random words, and what numbers mean to C.
use Rattle.std.specs.Prelude.{◌≡◌, ◌↔◌, ◌⊎◌, ◌≤◌, ℕ, false, if◌then◌else◌, nat_eq, List, Option, None, Some, slice_get}
use Rattle.rand_core.specs.Steps.{steps_u32, stream_of}
use Rattle.rand_core.specs.Stream.{Stream}
use Rattle.rand_chacha.specs.ChaCha.{ChaCha, next_word, of_seed}
use Rattle.mb_claim.specs.Vocabulary.{most_accesses, shape_of}
use Rattle.mb_claim.specs.declared.layout.Layout.{Layout}
use Rattle.mb_quorum.specs.declared.table.TableName.{TableName}
use Rattle.mb_quorum.specs.declared.table.TableName.TheVariants.{Bits, Middle, Unary}
use Rattle.mb_world.specs.Theorem.{ReportView}
use Rattle.mb_bound.specs.Bound.{BoundHubView, BoundProducerView}
use Rattle.mb_mailbox.specs.Hubs.{with_taken_consumer, with_taken_producer}
use Rattle.mb_mailbox.specs.declared.consumer.Poll.{Poll}
use Rattle.mb_mailbox.specs.declared.consumer.Poll.TheVariants as poll
use Rattle.hazbultra.specs.Zeros.{zeros}
use Rattle.hazbultra.specs.declared.codes.TheConstants.{BAD_HANDLE, NO_LANE, UNDECIDED}
use Rattle.hazbultra.specs.declared.thing.Thing.{Thing}
use Rattle.hazbultra.specs.declared.thing.Thing.TheVariants.{OfConsumer, OfHub}
use Rattle.hazbultra.specs.declared.thing.Thing.TheVariants.{OfProducer, OfReport}
use Rattle.hazbultra.specs.declared.thing.SeededConsumer.{SeededConsumer}

-- ---- what a handle leads to
-- a handle leads to a hub
abbrev pub IsHub : Option Thing → Type 0
IsHub (Some (OfHub h)) = Unit {0}
IsHub _ = ⊥

-- a handle leads to a producer
abbrev pub IsProducer : Option Thing → Type 0
IsProducer (Some (OfProducer p)) = Unit {0}
IsProducer _ = ⊥

-- a handle leads to a consumer
abbrev pub IsConsumer : Option Thing → Type 0
IsConsumer (Some (OfConsumer c)) = Unit {0}
IsConsumer _ = ⊥

-- a handle leads to a report
abbrev pub IsReport : Option Thing → Type 0
IsReport (Some (OfReport r)) = Unit {0}
IsReport _ = ⊥

-- ---- what handles lead to before a call and after it
-- the handle led to a hub before and leads to a hub after, and R holds of the two
abbrev pub HubWent : (BoundHubView → BoundHubView → Type 0) → Option Thing → Option Thing → Type 0
HubWent R (Some (OfHub h)) (Some (OfHub k)) = R h k
HubWent R _ _ = ⊥

-- the handle led to a producer before and leads to one of the same mailbox after, and R holds of the two
abbrev pub ProducerWent
    : (BoundProducerView → BoundProducerView → Type 0) → Option Thing → Option Thing → Type 0
ProducerWent R (Some (OfProducer p)) (Some (OfProducer q)) =
    (q.id ≡ p.id) × (q.mailbox ≡ p.mailbox) × R p q
ProducerWent R _ _ = ⊥

-- the handle led to a consumer before and leads to one of the same mailbox after, and R holds of the two
abbrev pub ConsumerWent
    : (SeededConsumer → SeededConsumer → Type 0) → Option Thing → Option Thing → Type 0
ConsumerWent R (Some (OfConsumer c)) (Some (OfConsumer d)) =
    (d.consumer.id ≡ c.consumer.id) × (d.consumer.mailbox ≡ c.consumer.mailbox) × R c d
ConsumerWent R _ _ = ⊥

-- the first handle led to a hub before and the second leads to a producer after, and R holds of the two
abbrev pub HubGave
    : (BoundHubView → BoundProducerView → Type 0) → Option Thing → Option Thing → Type 0
HubGave R (Some (OfHub h)) (Some (OfProducer p)) = R h p
HubGave R _ _ = ⊥

-- the first handle led to a hub before and the second leads to a consumer after, and R holds of the two
abbrev pub HubGaveConsumer
    : (BoundHubView → SeededConsumer → Type 0) → Option Thing → Option Thing → Type 0
HubGaveConsumer R (Some (OfHub h)) (Some (OfConsumer c)) = R h c
HubGaveConsumer R _ _ = ⊥

-- the first handle led to a hub before and the second leads to a report after, and R holds of the two
abbrev pub HubTold : (BoundHubView → ReportView → Type 0) → Option Thing → Option Thing → Type 0
HubTold R (Some (OfHub h)) (Some (OfReport r)) = R h r
HubTold R _ _ = ⊥

-- a handle leads to a hub for which R holds
abbrev pub HubMade : (BoundHubView → Type 0) → Option Thing → Type 0
HubMade R (Some (OfHub h)) = R h
HubMade R _ = ⊥

-- a handle leads to a producer for which R holds
abbrev pub ProducerMade : (BoundProducerView → Type 0) → Option Thing → Type 0
ProducerMade R (Some (OfProducer p)) = R p
ProducerMade R _ = ⊥

-- a handle leads to a consumer for which R holds
abbrev pub ConsumerMade : (SeededConsumer → Type 0) → Option Thing → Type 0
ConsumerMade R (Some (OfConsumer c)) = R c
ConsumerMade R _ = ⊥

-- a handle leads to a report for which R holds
abbrev pub ReportHas : (ReportView → Type 0) → Option Thing → Type 0
ReportHas R (Some (OfReport r)) = R r
ReportHas R _ = ⊥

-- hub h has become hub k by taking back what a handle led to: a producer or consumer of its mailbox, not yet returned
abbrev pub HasTakenBack : BoundHubView → Option Thing → BoundHubView → Type 0
HasTakenBack h (Some (OfProducer p)) k =
    (h.id ≡ p.id) × (slice_get h.hub.puts p.producer.seat.lane ≡ Some None)
    × (k ≡ record h { hub = with_taken_producer p.producer h.hub })
HasTakenBack h (Some (OfConsumer c)) k =
    (h.id ≡ c.consumer.id)
    × (slice_get h.hub.records c.consumer.consumer.seat.consumer ≡ Some None)
    × (k ≡ record h { hub = with_taken_consumer c.consumer.consumer h.hub })
HasTakenBack h _ k = ⊥

-- ---- random words
-- the random words that a consumer draws from now on: those of its ChaCha8 generator, or zeros if it has none
abbrev pub words_of : Option ChaCha → Stream
words_of None = zeros
words_of (Some rng) = stream_of (steps_u32 (next_word 4)) rng

-- the source of random words of the consumer of this number: ChaCha8 from this seed, with the number as its stream. It
-- is `None` if a claim makes at most one access, as that is an exchange, which looks at no random word
abbrev pub source_of : Layout → List ℕ → ℕ → Option ChaCha
source_of layout seed number = if nat_eq (most_accesses layout) 1 then None
    else Some (record (of_seed seed) { stream = number })

-- ---- what numbers mean to C
-- the quorum table that C names by this number, if it names one
abbrev pub table_numbered : ℕ → Option TableName
table_numbered n =
    if nat_eq n 0 then Some Unary
    else if nat_eq n 1 then Some Bits
    else if nat_eq n 2 then Some Middle
    else None

-- the result of a poll that this code and this value tell C, if the code is one of a result
abbrev pub answer_told : ℕ → ℕ → Option Poll
answer_told n x =
    if nat_eq n 1 then Some (poll.Took x)
    else if nat_eq n 2 then Some (poll.Lost x)
    else if nat_eq n 3 then Some poll.Undecided
    else if nat_eq n 4 then Some poll.Nothing
    else if nat_eq n 5 then Some poll.Ended
    else if nat_eq n 6 then Some poll.Spent
    else if nat_eq n 7 then Some poll.NoLane
    else None

-- ---- what a poll and a take of a consumer come to
-- what a poll and a take of lane `lane` have in common, by their code and value
pub record ConsumerAnswered (code value lane : ℕ) (old new : Option Thing) : Type 0 where
  pub decided : code ≡ UNDECIDED
      → ConsumerMade (λ c. (shape_of c.consumer.mailbox.claims.layout).last ≡ false) old
  pub no_lane : (code ≡ NO_LANE) ↔ ConsumerMade (λ c. c.consumer.mailbox.cells.size.lanes ≤ lane) old
  pub refused : code ≡ NO_LANE → ConsumerWent (λ c d. (d.consumer ≡ c.consumer)
      × (words_of d.source ≡ words_of c.source)) old new
  pub bad : code ≡ BAD_HANDLE → IsConsumer old → ⊥
  pub same : code ≡ BAD_HANDLE → new ≡ old
  pub codes : (code ≡ BAD_HANDLE) ⊎ ((answer : Poll) × (answer_told code value ≡ Some answer))
