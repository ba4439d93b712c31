-- The run of workers of which a report was gathered: its terms, the workers, and what they came to.
use Rattle.std.specs.Prelude.{ℕ, ◌≡◌, List}
use Rattle.mb_mailbox.specs.Imports.{Stream, consumer_count}
use Rattle.mb_mailbox.specs.Called.{IsCalled}
use Rattle.mb_mailbox.specs.Gathering.{FullTakesAll, IsGathered, IsReportIn}
use Rattle.mb_mailbox.specs.Hubs.{HubView, IsHubOf, hub_empty}
use Rattle.mb_mailbox.specs.Mailboxes.{MailboxView, plan_at}
use Rattle.mb_mailbox.specs.declared.gate.Who.{Who}
use Rattle.mb_mailbox.specs.declared.crew.Worked.{Worked}
use Rattle.mb_world.specs.Plan.{Histories, Plan, size_of}
use Rattle.mb_world.specs.Theorem.{ReportView}

-- the terms of a run: the plan of its mailbox, the most accesses of one poll, and each consumer's random words
pub record Terms : Type 0 where
  pub plan : Plan
  pub budget : ℕ
  pub sources : List Stream

-- the run of workers that led to a report. It was in a mailbox with the plan of `terms`, from a hub that had issued
-- nothing to `hub`. It had a producer for each list and a consumer for each source, and came to these counts.
-- It is not said here that the mailbox has enough lanes and consumers for them: `work` refuses more
pub record IsReportedRun (may_stop may_pass : Who → ℕ → Type 0) (terms : Terms) (lists : List (List ℕ))
    (counts : Worked) (hs : Histories) (r : ReportView) : Type 0 where
  pub mailbox : MailboxView
  pub plan : plan_at mailbox ≡ terms.plan
  pub size : mailbox.cells.size ≡ size_of terms.plan
  pub hub : HubView
  pub belongs : IsHubOf mailbox hub
  -- each call of a consumer is a poll with this budget, and draws from the consumer's own source. The field
  -- `worked` in it says: a worker was stopped only before a call at which the gate may stop it, or before call
  -- 2^64 - 1. Each other producer has put its list, or a fetch-add of its own found no cell. Each other consumer has a
  -- note on each item. The counts are of these workers
  pub called : IsCalled may_stop may_pass terms.budget lists terms.sources counts (hub_empty mailbox) hub
  -- the report is gathered from this hub, and `hs` has all accesses of the producers and consumers returned to the hub
  pub told : IsReportIn mailbox.cells.size.lanes (consumer_count mailbox.claims.layout) hub r
  pub gathered : IsGathered mailbox hub r
  pub full : FullTakesAll mailbox hub r
  pub histories : gathered.histories ≡ hs
