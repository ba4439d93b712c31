-- What the gate let the workers of a run do, and which calls their consumers made.
use Rattle.std.specs.Prelude.{ℕ, suc, ◌≡◌, ◌+◌, ◌<◌, List, [], ◌∷◌, false, length}
use Rattle.mb_mailbox.specs.Imports.{Stream}
use Rattle.mb_mailbox.specs.Calls.{ArePassed}
use Rattle.mb_mailbox.specs.Consumers.{ConsumerView}
use Rattle.mb_mailbox.specs.HubRuns.{with_producers}
use Rattle.mb_mailbox.specs.Hubs.{HubView, IsHubOf, IsNewConsumer, with_consumer}
use Rattle.mb_mailbox.specs.Jobs.{HasPolled, accesses_made}
use Rattle.mb_mailbox.specs.Mailboxes.{MailboxView}
use Rattle.mb_mailbox.specs.Worked.{ConsumerEnd, IsWorked, ProducerEnd}
use Rattle.mb_mailbox.specs.declared.gate.Who.{Who}
use Rattle.mb_mailbox.specs.declared.gate.Who.TheVariants as who
use Rattle.mb_mailbox.specs.declared.crew.Worked.{Worked}

-- the gate let the producer of lane p through before calls 1, 2, .. up to the number of items that it put. If it was
-- not stopped and put less than its list, also before one call more: that for the item that found no cell
pub record WasPassed (may_pass : Who → ℕ → Type 0) (p : ℕ) (list : List ℕ) (l : ProducerEnd) : Type 0 where
  pub put : ArePassed may_pass (who.Producer p) (length l.put)
  pub full : l.stopped ≡ false → length l.put < length list → may_pass (who.Producer p) (suc (length l.put))

-- the gate let each producer of these lanes, from p on, through before each of its calls
abbrev pub WerePassed : (Who → ℕ → Type 0) → ℕ → List (List ℕ) → List ProducerEnd → Type 0
WerePassed may_pass p [] [] = Unit {0}
WerePassed may_pass p (list ∷ lists) (l ∷ ls) = WasPassed may_pass p list l × WerePassed may_pass (suc p) lists ls
WerePassed may_pass p _ _ = ⊥

-- this hub issued consumer c, which then made its calls with the words of this source. `l` is what it came to. What its
-- places are, and how many lists of notes it has, `IsHub` says of the hub to which it was returned
pub record WasPolled (may_stop may_pass : Who → ℕ → Type 0) (hub : HubView) (from end budget c : ℕ) (source : Stream)
    (l : ConsumerEnd) : Type 0 where
  pub mailbox : MailboxView
  pub belongs : IsHubOf mailbox hub
  pub first : ConsumerView
  pub last : ConsumerView
  pub new : IsNewConsumer mailbox hub first
  pub reader : first.reader.reader ≡ c
  pub consumer : first.seat.consumer ≡ c
  pub none : accesses_made first ≡ 0
  pub polled : HasPolled may_stop may_pass from end budget source l.stopped first last
  pub reads : l.reads ≡ last.reader.part
  pub claimed : l.claimed ≡ last.seat.part
  pub kept : l.kept ≡ record { places = last.places; notes = last.notes }

-- this hub issued these consumers one after the other, with the numbers from c on. Each made its calls with the words
-- of its own source. There is one consumer for each of these sources, in their order
abbrev pub WerePolled : (Who → ℕ → Type 0) → (Who → ℕ → Type 0) → HubView → ℕ → ℕ → ℕ → ℕ → List Stream
    → List ConsumerEnd → Type 0
WerePolled may_stop may_pass hub from end budget c [] [] = Unit {0}
WerePolled may_stop may_pass hub from end budget c (source ∷ sources) (l ∷ ls) =
    WasPolled may_stop may_pass hub from end budget c source l
    × WerePolled may_stop may_pass (with_consumer hub) from end budget (suc c) sources ls
WerePolled may_stop may_pass hub from end budget c _ _ = ⊥

-- a run came to its end, and before each call of a worker the gate may let the worker pass. `puts` and `polls` speak of
-- the workers that `worked` names. So all three agree on which of them were stopped. Each call of a consumer is a poll,
-- with this budget, of a lane that was issued in this run. It draws from the consumer's own source: the first consumer
-- issued in this run has the first source, the second one the second, and so on. The hub issued a producer for each
-- list before it issued these consumers
pub record IsCalled (may_stop may_pass : Who → ℕ → Type 0) (budget : ℕ) (lists : List (List ℕ)) (sources : List Stream)
    (w : Worked) (old new : HubView) : Type 0 where
  pub worked : IsWorked may_stop budget lists (length sources) w old new
  pub puts : WerePassed may_pass (length old.puts) lists worked.lanes
  pub polls : WerePolled may_stop may_pass (with_producers lists old) (length old.puts)
      (length old.puts + length lists) budget (length old.records) sources worked.consumers
