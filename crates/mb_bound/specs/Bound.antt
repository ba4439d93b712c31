-- A hub, a producer and a consumer, each with its mailbox.
use Rattle.std.specs.Prelude.{ℕ, ◌≡◌}
use Rattle.mb_mailbox.specs.Consumers.{ConsumerView}
use Rattle.mb_mailbox.specs.Hubs.{HubView}
use Rattle.mb_mailbox.specs.Mailboxes.{MailboxView}
use Rattle.mb_mailbox.specs.Producers.{ProducerView}

-- what proofs see of a hub with its mailbox: the number that the mailbox was made with, the mailbox, and the hub
pub record BoundHubView : Type 0 where
  pub id : ℕ
  pub mailbox : MailboxView
  pub hub : HubView

-- what proofs see of a producer with its mailbox: the mailbox's number, the mailbox, and the producer
pub record BoundProducerView : Type 0 where
  pub id : ℕ
  pub mailbox : MailboxView
  pub producer : ProducerView

-- what proofs see of a consumer with its mailbox: the mailbox's number, the mailbox, and the consumer
pub record BoundConsumerView : Type 0 where
  pub id : ℕ
  pub mailbox : MailboxView
  pub consumer : ConsumerView

-- mailbox m has number i, and mailbox n has number j: if the numbers are equal, the mailboxes are one
abbrev pub AreNamedApart : ℕ → MailboxView → ℕ → MailboxView → Type 0
AreNamedApart i m j n = i ≡ j → m ≡ n
