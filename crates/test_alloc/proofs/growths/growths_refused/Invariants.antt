use Rattle.std.specs.Prelude.{ℕ, ◌<◌, false}
use Rattle.test_alloc.specs.Trials.{MaySay}
use Rattle.test_alloc.specs.declared.counters.Refuse.TheVariants.{From, Only}
use Rattle.test_alloc.proofs.growths.growths_refused.Given as goal

-- by its contract the call may return `false`, for refused, over each heap that was tried so far
abbrev pub invariant-loop-number : goal.invariant-loop-number
invariant-loop-number g l =
    (k : ℕ) → k < l.number → MaySay g.F.Fn l.call (From k) false × MaySay g.F.Fn l.call (Only k) false
