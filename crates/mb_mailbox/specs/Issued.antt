-- The jobs of a run's workers: which producer or consumer each job has, and that a hub has issued these.
use Rattle.std.specs.Prelude.{ℕ, suc, ◌≡◌, ◌≤◌, ◌++◌, Bool, List, [], ◌∷◌, Vec, length, map, true}
use Rattle.mb_mailbox.specs.HubRuns.{with_consumers, with_producers}
use Rattle.mb_mailbox.specs.Hubs.{HubView, IsNewConsumer, new_producer, with_consumer}
use Rattle.mb_mailbox.specs.Mailboxes.{MailboxView}
use Rattle.mb_mailbox.specs.declared.crew.jobs.Job.{Job}
use Rattle.mb_mailbox.specs.declared.crew.jobs.Job.TheVariants as job
use Rattle.mb_mailbox.specs.declared.crew.jobs.PollJob.{PollJob}
use Rattle.mb_mailbox.specs.declared.crew.jobs.PutJob.{PutJob}

-- ---- the jobs of lists and of consumers, with numbers one after the other
module _ {Z : Type 0} where
  -- there is one job for each list, in their order, and the jobs have new producers with the numbers from p on
  abbrev pub ArePutJobs : MailboxView → ℕ → List (Vec ℕ Z) → List (PutJob Z) → Type 0
  ArePutJobs m p [] [] = Unit {0}
  ArePutJobs m p (v ∷ vs) (j ∷ js) = (j.producer ≡ new_producer m p) × (j.list ≡ v) × ArePutJobs m (suc p) vs js
  ArePutJobs m p _ _ = ⊥

  -- the jobs have new consumers, which this hub issues one after the other
  abbrev pub ArePollJobs : {R : Type 0} → MailboxView → HubView → List (PollJob R Z) → Type 0
  ArePollJobs m h [] = Unit {0}
  ArePollJobs m h (j ∷ js) = IsNewConsumer m h j.consumer × ArePollJobs m (with_consumer h) js

-- ---- the jobs whose producers and consumers a hub has issued
module _ {R Z : Type 0} (m : MailboxView) where
  -- there is one producer's job for each list, in their order. The hub has issued the producers, with the next numbers
  pub record ArePutsIssued (lists : List (Vec ℕ Z)) (jobs : List (Job R Z)) (old new : HubView) : Type 0 where
    pub puts : List (PutJob Z)
    pub whole : jobs ≡ map job.Put puts
    pub are : ArePutJobs m (length old.puts) lists puts
    pub hub : new ≡ with_producers puts old

  -- `ArePutsIssued` holds for a beginning of these lists
  pub record ArePutsIssuedEarly (lists : List (Vec ℕ Z)) (jobs : List (Job R Z)) (old new : HubView) : Type 0 where
    pub front : List (Vec ℕ Z)
    pub rest : List (Vec ℕ Z)
    pub whole : front ++ rest ≡ lists
    pub given : ArePutsIssued front jobs old new

  -- after the jobs `first` come those of new consumers, at most as many as there are sources. If `all` is true, there
  -- is one for each source, in their order. The hub has issued these consumers
  pub record ArePollsIssued (sources : List R) (all : Bool) (first jobs : List (Job R Z)) (old new : HubView)
      : Type 0 where
    pub polls : List (PollJob R Z)
    pub whole : jobs ≡ first ++ map job.Poll polls
    pub are : ArePollJobs m old polls
    pub few : length polls ≤ length sources
    pub all_sources : all ≡ true → map (λ j. j.rng) polls ≡ sources
    pub hub : new ≡ with_consumers polls old

  -- there is one producer's job for each list, in their order, and then come consumers' jobs. The hub has issued these
  -- producers and consumers, with the next numbers
  pub record AreGiven (lists : List (Vec ℕ Z)) (jobs : List (Job R Z)) (old new : HubView) : Type 0 where
    pub puts : List (PutJob Z)
    pub polls : List (PollJob R Z)
    pub whole : jobs ≡ map job.Put puts ++ map job.Poll polls
    pub are_puts : ArePutJobs m (length old.puts) lists puts
    pub are_polls : ArePollJobs m (with_producers puts old) polls
    pub hub : new ≡ with_consumers polls (with_producers puts old)

  -- `AreGiven` holds for a beginning of these lists, with at most this many consumers
  pub record AreIssuedEarly (lists : List (Vec ℕ Z)) (sources : ℕ) (jobs : List (Job R Z)) (old new : HubView)
      : Type 0 where
    pub front : List (Vec ℕ Z)
    pub rest : List (Vec ℕ Z)
    pub whole : front ++ rest ≡ lists
    pub given : AreGiven front jobs old new
    pub few : length given.polls ≤ sources

  -- `AreGiven` holds for all these lists, and there is one consumer's job for each of these sources, in their order
  pub record AreAllIssued (lists : List (Vec ℕ Z)) (sources : List R) (jobs : List (Job R Z)) (old new : HubView)
      : Type 0 where
    pub given : AreGiven lists jobs old new
    pub all_sources : map (λ j. j.rng) given.polls ≡ sources
