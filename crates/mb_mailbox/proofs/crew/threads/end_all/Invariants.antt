use Rattle.std.proofs.Common.{◌≡◌, ◌++◌, ◌+◌, ◌≤◌, vec_len, vec_capacity}
use Rattle.std.specs.Vec.Iter.{into_iter_items, into_iter_len}
use Rattle.std.specs.List.{All, AllZip}
use Rattle.mb_mailbox.specs.Runs.{IsEnd, IsJobOf}
use Rattle.mb_mailbox.proofs.crew.threads.end_all.Given as goal

-- each job yielded so far has its end in `done`, which has room for the rest. The rest are jobs of the mailbox
abbrev pub invariant-loop-job : goal.invariant-loop-job
invariant-loop-job g l = record {
  rest : l.yielded ++ into_iter_items l.job-iterator ≡ l.fn.jobs.items;
  all_of : All (IsJobOf l.shared.mailbox.now) (into_iter_items l.job-iterator);
  left : vec_len l.done + into_iter_len l.job-iterator ≡ vec_len l.fn.jobs;
  room : vec_len l.fn.jobs ≤ vec_capacity l.done;
  ends : AllZip (IsEnd (g.G.Gate.may_stop l.shared.gate.now) (g.G.Gate.may_pass l.shared.gate.now)
      g.R.Rng.stream l.shared.lanes) l.yielded l.done.items;
}
