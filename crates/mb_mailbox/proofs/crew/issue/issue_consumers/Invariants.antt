use Rattle.std.proofs.Common.{◌≡◌, ◌++◌, ◌+◌, length, true, vec_len, vec_capacity}
use Rattle.std.specs.Vec.Iter.{into_iter_items, into_iter_len}
use Rattle.std.specs.List.{All}
use Rattle.mb_mailbox.specs.Hubs.{IsHubOf}
use Rattle.mb_mailbox.specs.Issued.{ArePollsIssued}
use Rattle.mb_mailbox.specs.Runs.{IsJobOf}
use Rattle.mb_mailbox.proofs.crew.issue.issue_consumers.Given as goal

-- each source yielded so far has a job with a new consumer, which the hub has issued. Hub and jobs are the mailbox's
abbrev pub invariant-loop-rng : goal.invariant-loop-rng
invariant-loop-rng g l = record {
  rest : l.yielded ++ into_iter_items l.rng-iterator ≡ l.fn.rngs.items;
  left : vec_len l.jobs + into_iter_len l.rng-iterator ≡ vec_len l.fn.jobs + vec_len l.fn.rngs;
  room : vec_capacity l.jobs ≡ vec_capacity l.fn.jobs;
  given : ArePollsIssued l.mailbox l.yielded true l.fn.jobs.items l.jobs.items l.fn.hub l.hub;
  all_jobs : All (IsJobOf l.mailbox) l.jobs.items;
  all_of : IsHubOf l.mailbox l.hub;
  records : length l.hub.records + vec_len l.fn.jobs ≡ length l.fn.hub.records + vec_len l.jobs;
}
