-- Proof of `breadth`: the least number of registers that have at least `values` sets of half of them, rounded down.
use Rattle.std.proofs.Common.{◌≡◌, ap, arith}
use Rattle.mb_quorum.specs.Middle.{halves}
use Rattle.mb_quorum.specs.MiddleLaw.{least_so_far}
use Rattle.mb_quorum.proofs.middle.breadth.Goals as goal

-- if the loop came to 8 registers, these have 70 sets of half of them, which are enough
pub returns-after-loop-registers-clause-exact : goal.returns-after-loop-registers-clause-exact
returns-after-loop-registers-clause-exact c =
    let n = c.loop-registers.registers in
    let eight : n ≡ 8 = omega (arith, c.loop-registers-test.false, c.loop-registers.invariant.few) in
    let all : halves n ≡ 70 = ap halves eight in
    least_so_far c.args.values n (omega (arith, all, c.requires)) c.loop-registers.invariant.smaller
