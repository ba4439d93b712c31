-- Proof of `laws::parts_tell_cells_met`: the cells that `cells_met` reads off a consumer's loads are all it met.
use Rattle.mb_world.proofs.MetCells.{all_met}
use Rattle.mb_world.proofs.laws.parts_tell_cells_met.Goals as goal

pub returns : goal.returns
returns c plan hs d p sound ds =
    all_met plan hs (c.sound_histories_are_known.ensures plan hs sound) d p ds
