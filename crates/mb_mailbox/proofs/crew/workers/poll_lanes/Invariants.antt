use Rattle.std.proofs.Common.{◌≡◌, ℕ, true, false, slice_index_or, ◌<◌, suc, ◌+◌, ◌-◌, ◌*◌, ◌≤◌}
use Rattle.mb_mailbox.specs.Calls.{HasCalled}
use Rattle.mb_mailbox.specs.Consumers.{IsConsumerOf}
use Rattle.mb_mailbox.specs.Jobs.{HasReadMarked, IsOnLanes, IsSameConsumer, accesses_made, count_marks, ends_met}
use Rattle.mb_mailbox.proofs.crew.workers.poll_lanes.Given as goal

-- before each call the marked lanes, all of the run, are read to their ends. All accesses are of the calls so far
abbrev pub invariant-loop-call : goal.invariant-loop-call
invariant-loop-call g l = record {
  place : l.at ≤ l.end;
  all_of : IsConsumerOf l.mailbox l.consumer;
  same : IsSameConsumer l.fn.job.consumer l.consumer;
  read : HasReadMarked l.ended l.consumer;
  only : accesses_made l.fn.job.consumer ≡ 0 → IsOnLanes l.from l.end l.consumer.reader.part;
  marks : (p : ℕ) → slice_index_or l.ended p false ≡ true → (l.from ≤ p) × (p < l.end);
  ends : accesses_made l.fn.job.consumer ≡ 0 → ends_met l.consumer.reader.part ≡ count_marks l.ended;
  made : l.call ≤ suc (accesses_made l.consumer);
  most : accesses_made l.consumer ≤ accesses_made l.fn.job.consumer + l.budget * (l.call - 1);
  called : HasCalled (g.G.Gate.may_pass l.gate) l.from l.end l.budget (l.call - 1)
      (g.R.Rng.stream l.fn.job.rng) (g.R.Rng.stream l.rng) l.fn.job.consumer l.consumer;
}
