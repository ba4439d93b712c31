use Rattle.std.proofs.Common.{◌≡◌, ◌++◌, ◌+◌, ◌-◌, ◌≤◌, vec_len, vec_capacity}
use Rattle.std.specs.Vec.Iter.{into_iter_items, into_iter_len}
use Rattle.std.specs.List.{All, AllZip}
use Rattle.mb_mailbox.specs.Begun.{Promises}
use Rattle.mb_mailbox.specs.Runs.{ArePutsFirst, IsJobOf}
use Rattle.mb_mailbox.proofs.crew.spawn.start_all.Given as goal

-- each job yielded so far has its worker in `begun`, with room for the rest. Of the rest the producers' jobs come first
abbrev pub invariant-loop-job : goal.invariant-loop-job
invariant-loop-job g l = record {
  rest : l.yielded ++ into_iter_items l.job-iterator ≡ l.fn.jobs.items;
  all_of : All (IsJobOf l.shared.mailbox.now) (into_iter_items l.job-iterator);
  first : ArePutsFirst (l.shared.lanes.end - l.shared.lanes.from - vec_len l.begun) (into_iter_items l.job-iterator);
  left : vec_len l.begun + into_iter_len l.job-iterator ≡ vec_len l.fn.jobs;
  room : vec_len l.fn.jobs ≤ vec_capacity l.begun;
  promised : AllZip (Promises g.G.Gate.may_stop g.G.Gate.may_pass g.R.Rng.stream l.shared.gate.now l.shared.lanes)
      l.yielded l.begun.items;
}
