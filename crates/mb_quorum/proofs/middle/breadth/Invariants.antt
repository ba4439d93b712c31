-- What the loop of `breadth` keeps: there are at most 8 registers, and fewer registers have fewer than `values` sets of
-- half of them, rounded down. In each pass `8 - registers` gets smaller.
use Rattle.std.proofs.Common.{◌≤◌, ◌<◌, ◌-◌, ℕ}
use Rattle.mb_quorum.specs.Middle.{halves}
use Rattle.mb_quorum.proofs.middle.breadth.Given as goal

abbrev pub invariant-loop-registers : goal.invariant-loop-registers
invariant-loop-registers l = record {
  few : l.registers ≤ 8;
  smaller : (c : ℕ) → c < l.registers → halves c < l.values;
}

abbrev pub decreases-loop-registers : goal.decreases-loop-registers
decreases-loop-registers l = 8 - l.registers
