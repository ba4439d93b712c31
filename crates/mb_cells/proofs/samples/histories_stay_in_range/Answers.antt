-- Proof of `samples::histories_stay_in_range`: a lawful history has only lanes of the pool.
use Rattle.std.proofs.Common.{arith, ◌<◌}
use Rattle.mb_cells.proofs.samples.histories_stay_in_range.Goals as goal

pub returns : goal.returns
returns c = λ l. let low : 1 < 1 = l.fits.1 in omega arith
