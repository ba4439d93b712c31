use Rattle.std.proofs.Common.{◌≡◌, ◌++◌, ◌-◌, ◌^◌, ◌<◌, false, length, min, true}
use Rattle.std.specs.Int.{from_bool}
use Rattle.std.specs.Vec.Iter.{into_iter_items}
use Rattle.std.specs.List.{All, sum_by}
use Rattle.mb_mailbox.specs.Hubs.{IsHubOf}
use Rattle.mb_mailbox.specs.Runs.{IsDoneOf, full_of, is_aborted, is_stopped, with_taken}
use Rattle.mb_mailbox.proofs.crew.collect.settle.Given as goal

-- the hub took back what each end yielded so far has, and the totals are of these ends. Hub and rest are the mailbox's
abbrev pub invariant-loop-end : goal.invariant-loop-end
invariant-loop-end g l = record {
  rest : l.yielded ++ into_iter_items l.end-iterator ≡ l.fn.ends.items;
  to_take : All (IsDoneOf l.mailbox) (into_iter_items l.end-iterator);
  full : l.totals.full ≡ min (2 ^ 64 - 1) (sum_by full_of l.yielded);
  stopped : l.totals.stopped ≡ min (2 ^ 64 - 1) (sum_by (λ d. from_bool (is_stopped d)) l.yielded);
  on : l.totals.aborted ≡ false → All (λ d. is_aborted d ≡ false) l.yielded;
  told : All (λ d. is_aborted d ≡ false) l.yielded → l.totals.aborted ≡ false;
  some : l.totals.aborted ≡ true → 0 < length l.yielded;
  hub : l.hub ≡ with_taken l.yielded l.fn.hub;
  all_of : IsHubOf l.mailbox l.hub;
}
