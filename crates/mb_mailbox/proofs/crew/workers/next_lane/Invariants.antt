use Rattle.std.proofs.Common.{◌≡◌, ℕ, ◌<◌, ◌≤◌, true, slice_index_or}
use Rattle.mb_mailbox.proofs.crew.workers.next_lane.Given as goal

-- each lane from `at` on and before `lane` is marked as ended, and in the second loop each from `from` on, too
abbrev pub invariant-loop-lane : goal.invariant-loop-lane
invariant-loop-lane l = (p : ℕ) → l.at ≤ p → l.from ≤ p → p < l.lane → slice_index_or l.ended p true ≡ true

abbrev pub invariant-loop-lane-2 : goal.invariant-loop-lane-2
invariant-loop-lane-2 l = (p : ℕ) → l.from ≤ p → p < l.lane → slice_index_or l.ended p true ≡ true
