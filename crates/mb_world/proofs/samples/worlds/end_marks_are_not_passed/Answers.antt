-- Proof of `samples::worlds::end_marks_are_not_passed`: what breaks the rules of end marks: a note that is missing,
-- and an access of the lane's producer after its mark.
use Rattle.std.proofs.Common.{◌≡◌, true, false, [], ◌∷◌, refl, inl, arith}
use Rattle.mb_cells.specs.LanePath.{fetch}
use Rattle.mb_world.specs.Imports.{Link, PoolAccess}
use Rattle.mb_world.specs.World.{pool_accesses}
use Rattle.mb_world.specs.WorldSamples.{all_done}
use Rattle.mb_world.proofs.samples.worlds.end_marks_are_not_passed.Goals as goal

-- consumer 1 has loaded the end mark of lane 0, so it must have a note on the item there. But it has none
pub returns-clause-noted : goal.returns-clause-noted
returns-clause-noted c ends =
    let none : false ≡ true = ends.noted 1 0 0 refl (Link 0, tt, refl, inl refl) (omega arith) in
    cc

-- after the end mark producer 0 must make no access. But it makes a fetch-add
pub returns-clause-silent : goal.returns-clause-silent
returns-clause-silent c ends =
    let late : PoolAccess = fetch 0 (record { cell = 2; value = 7 }) in
    let silent : late ∷ [] ≡ [] = ends.silent (late ∷ []) (pool_accesses all_done) 0 refl refl in cc
