-- Proof of `laws::processes_stand_once`: no process is in two views.
use Rattle.std.proofs.Common.{sym, ◌∙◌}
use Rattle.mb_shared_cells.proofs.Seatings.{stands_there}
use Rattle.mb_shared_cells.proofs.laws.processes_stand_once.Goals as goal

pub returns : goal.returns
returns c = λ size words views t one other who r a b.
    sym (stands_there size words views t one who r a) ∙ stands_there size words views t other who r b
