-- Proof of `laws::first_movers_win`: if only one store was made to a conciliator, every output has the value stored.
use Rattle.mb_deciding.proofs.Conciliators.{one_mover}
use Rattle.mb_deciding.proofs.laws.first_movers_win.Goals as goal

pub returns : goal.returns
returns c = one_mover
