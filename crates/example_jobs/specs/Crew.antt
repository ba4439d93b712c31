-- The producers and consumers of a crew's members are of one mailbox.
use Rattle.mb_mailbox.specs.Consumers.{IsConsumerOf}
use Rattle.mb_mailbox.specs.Mailboxes.{MailboxView}
use Rattle.mb_mailbox.specs.Producers.{IsProducerOf}
use Rattle.example_jobs.specs.declared.crew.Member.{Member}
use Rattle.example_jobs.specs.declared.crew.Member.TheVariants as member

-- the member's producer or consumer is one of the mailbox. A teller has neither
abbrev pub IsOf : MailboxView → Member → Type 0
IsOf m (member.Producer producer jobs) = IsProducerOf m producer
IsOf m (member.Worker consumer source first) = IsConsumerOf m consumer
IsOf m member.Teller = Unit {0}
