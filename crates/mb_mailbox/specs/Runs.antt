-- The jobs of a run, and their ends. An end is what the worker of a job gives back.
use Rattle.std.specs.Prelude.{ℕ, suc, zero, ◌≡◌, ◌≤◌, Bool, List, [], ◌∷◌, Vec, true, vec_capacity}
use Rattle.mb_mailbox.specs.Imports.{Stream}
use Rattle.mb_mailbox.specs.Consumers.{IsConsumerOf}
use Rattle.mb_mailbox.specs.Hubs.{HubView, with_taken_consumer, with_taken_producer}
use Rattle.mb_mailbox.specs.Jobs.{IsPollEnd, IsPutEnd}
use Rattle.mb_mailbox.specs.Mailboxes.{MailboxView}
use Rattle.mb_mailbox.specs.Producers.{IsProducerOf}
use Rattle.mb_mailbox.specs.declared.gate.Who.{Who}
use Rattle.mb_mailbox.specs.declared.crew.jobs.Done.{Done}
use Rattle.mb_mailbox.specs.declared.crew.jobs.Done.TheVariants as done
use Rattle.mb_mailbox.specs.declared.crew.jobs.Job.{Job}
use Rattle.mb_mailbox.specs.declared.crew.jobs.Job.TheVariants as job
use Rattle.mb_mailbox.specs.declared.crew.jobs.Lanes.{Lanes}

-- the list is empty, and has room for this many elements
abbrev pub HasRoom : {X Z : Type 0} → ℕ → Vec X Z → Type 0
HasRoom n v = (v.items ≡ []) × (n ≤ vec_capacity v)

module _ {R Z : Type 0} where
  -- the producer or consumer of the job is one of the mailbox
  abbrev pub IsJobOf : MailboxView → Job R Z → Type 0
  IsJobOf m (job.Put j) = IsProducerOf m j.producer
  IsJobOf m (job.Poll j) = IsConsumerOf m j.consumer

  -- the first n jobs are producers', and all after them are consumers'. If there are fewer than n, all are producers'
  abbrev pub ArePutsFirst : ℕ → List (Job R Z) → Type 0
  ArePutsFirst n [] = Unit {0}
  ArePutsFirst (suc n) (job.Put j ∷ js) = ArePutsFirst n js
  ArePutsFirst zero (job.Poll j ∷ js) = ArePutsFirst zero js
  ArePutsFirst _ _ = ⊥

  -- `d` is the end of this job. A consumer polls these lanes, with the words of its own source. `may_stop` and
  -- `may_pass` say before which calls the gate may stop which worker, or let it pass
  abbrev pub IsEnd : (Who → ℕ → Type 0) → (Who → ℕ → Type 0) → (R → Stream) → Lanes → Job R Z → Done Z → Type 0
  IsEnd may_stop may_pass stream lanes (job.Put j) (done.Put d) = IsPutEnd may_stop may_pass j d
  IsEnd may_stop may_pass stream lanes (job.Poll j) (done.Poll d) =
      IsPollEnd may_stop may_pass lanes.from lanes.end lanes.budget (stream j.rng) j.consumer d
  IsEnd _ _ _ _ _ _ = ⊥

-- ---- what an end says
module _ {Z : Type 0} where
  -- the producer or consumer of the end is one of the mailbox
  abbrev pub IsDoneOf : MailboxView → Done Z → Type 0
  IsDoneOf m (done.Put d) = IsProducerOf m d.producer
  IsDoneOf m (done.Poll d) = IsConsumerOf m d.consumer

  -- how many items of a producer's list were not put because no cell was left, and 0 for a consumer
  abbrev pub full_of : Done Z → ℕ
  full_of (done.Put d) = d.full
  full_of (done.Poll d) = 0

  -- whether the worker was stopped
  abbrev pub is_stopped : Done Z → Bool
  is_stopped (done.Put d) = d.stopped
  is_stopped (done.Poll d) = d.stopped

  -- whether the end says that the run is aborted
  abbrev pub is_aborted : Done Z → Bool
  is_aborted (done.Put d) = d.aborted
  is_aborted (done.Poll d) = d.aborted

  -- the same end, which says that the run is aborted
  abbrev pub with_abort : Done Z → Done Z
  with_abort (done.Put d) = done.Put (record d { aborted = true })
  with_abort (done.Poll d) = done.Poll (record d { aborted = true })

  -- the hub after it has taken back the producer or consumer of this end. `with_taken` does so for each end, in order
  abbrev pub with_taken_one : Done Z → HubView → HubView
  with_taken_one (done.Put d) h = with_taken_producer d.producer h
  with_taken_one (done.Poll d) h = with_taken_consumer d.consumer h

  abbrev pub with_taken : List (Done Z) → HubView → HubView
  with_taken [] h = h
  with_taken (d ∷ ds) h = with_taken ds (with_taken_one d h)
