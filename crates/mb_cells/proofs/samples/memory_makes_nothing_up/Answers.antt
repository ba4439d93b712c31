-- Proof of `samples::memory_makes_nothing_up`: a load gives only what its word holds.
use Rattle.std.proofs.Common.{arith, ◌≡◌}
use Rattle.mb_cells.proofs.samples.memory_makes_nothing_up.Goals as goal

pub returns : goal.returns
returns c = λ m. let e : 1 ≡ 0 = m.0 in omega arith
