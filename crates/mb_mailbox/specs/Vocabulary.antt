-- The words of mailboxes, producers, hubs and runs of workers, from one place. Crates above use them too.
pub use Rattle.mb_mailbox.specs.declared.crew.{WorkFault.WorkFault, Worked.Worked, jobs.{Done.Done, Job.Job, Lanes.Lanes, PollDone.PollDone, PollJob.PollJob, PutDone.PutDone, PutJob.PutJob}}
pub use Rattle.mb_mailbox.specs.declared.gate.Who.{Who}
pub use Rattle.mb_mailbox.specs.Imports.{CellsName, consumer_count}
pub use Rattle.mb_mailbox.specs.Mailboxes.{MailboxView, plan_at}
pub use Rattle.mb_mailbox.specs.Producers.{FoundNoCell, HasNoCellFor, IsEndOfLane, IsFirstPastCells, IsProducerOf, IsPutInto, IsSameLane, ProducerView, is_over}
pub use Rattle.mb_mailbox.specs.Hubs.{HubView, IsHub, IsHubOf, new_producer, put_list_of}
pub use Rattle.mb_mailbox.specs.Jobs.{HasReadEnds, HasReadToEnd, IsFront, IsOnLanes, IsPollEnd, IsPutEnd, IsStopBefore, IsStoppedPoll, accesses_made, ends_met}
pub use Rattle.mb_mailbox.specs.Calls.{ArePassed}
pub use Rattle.mb_mailbox.specs.Runs.{IsDoneOf, IsEnd, IsJobOf, full_of, is_aborted, is_stopped, with_taken}
pub use Rattle.mb_mailbox.specs.Worked.{AreCutByCells, AreStoppedPolls, AreStoppedPuts, ConsumerEnd, HasMetEnd, HasMetEnds, HasNoteAtEach, HaveMetEnds, IsRunOf, IsStoppedPut, IsWorked}
pub use Rattle.mb_mailbox.specs.Worked.{ProducerEnd, WereTakenIn, WereTakenInEarly, ended_list, items_behind, items_beyond, lists_in}
pub use Rattle.mb_mailbox.specs.Called.{IsCalled, WasPassed, WerePassed, WerePolled}
pub use Rattle.mb_mailbox.specs.Issued.{AreGiven, AreIssuedEarly, ArePollJobs, ArePutJobs}
