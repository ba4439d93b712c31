-- Proof of `Pc::ratifier`: the place of a process with this input before its first access to a ratifier.
use Rattle.std.proofs.Common.{arith}
use Rattle.mb_deciding.proofs.Sizes.{largest_bound}
use Rattle.mb_deciding.proofs.place.pc.Pc.ratifier.Goals as goal

pub returns-clause-bound : goal.returns-clause-bound
returns-clause-bound c t within = omega (arith, largest_bound t.write t.values c.args.input within)
