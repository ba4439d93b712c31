-- Proof of `steps::paths_are_short`: how many accesses a process makes at most on a ratifier and on a conciliator.
use Rattle.mb_deciding.proofs.MostLeft.{ratifier_short}
use Rattle.mb_deciding.proofs.steps.paths_are_short.Goals as goal

pub returns-clause-ratifier : goal.returns-clause-ratifier
returns-clause-ratifier c = ratifier_short
