use Rattle.std.proofs.Common.{◌≡◌, ◌++◌, ◌+◌, length, vec_len, vec_capacity}
use Rattle.std.specs.Vec.Iter.{into_iter_items, into_iter_len}
use Rattle.std.specs.List.{All}
use Rattle.mb_mailbox.specs.Hubs.{IsHubOf}
use Rattle.mb_mailbox.specs.Issued.{ArePutsIssued}
use Rattle.mb_mailbox.specs.Runs.{IsJobOf}
use Rattle.mb_mailbox.proofs.crew.issue.issue_producers.Given as goal

-- each list yielded so far has a job with a new producer, which the hub has issued. Hub and jobs are the mailbox's
abbrev pub invariant-loop-list : goal.invariant-loop-list
invariant-loop-list g l = record {
  rest : l.yielded ++ into_iter_items l.list-iterator ≡ l.fn.items.items;
  left : vec_len l.jobs + into_iter_len l.list-iterator ≡ vec_len l.fn.items;
  room : vec_capacity l.jobs ≡ vec_capacity l.fn.jobs;
  given : ArePutsIssued l.mailbox l.yielded l.jobs.items l.fn.hub l.hub;
  all_jobs : All (IsJobOf l.mailbox) l.jobs.items;
  all_of : IsHubOf l.mailbox l.hub;
  puts : length l.hub.puts ≡ length l.fn.hub.puts + vec_len l.jobs;
}
