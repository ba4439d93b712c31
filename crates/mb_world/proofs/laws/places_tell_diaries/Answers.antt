-- Proof of `laws::places_tell_diaries`: the diary of a consumer on a lane follows from the place to which its path
-- there has led.
use Rattle.mb_world.proofs.WorldDiaries.{diary_is, held_is}
use Rattle.mb_world.proofs.laws.places_tell_diaries.Goals as goal

pub returns-clause-diary : goal.returns-clause-diary
returns-clause-diary c plan h d p ks ns held table lawful path =
    let sound = c.worlds_are_sound.ensures.sound plan h table lawful in
    let known = c.worlds_are_known.ensures plan h table sound.pool_lawful in
    diary_is plan h lawful known d p ks ns held path

pub returns-clause-held : goal.returns-clause-held
returns-clause-held c plan h d p k ks ns xs table lawful path =
    let sound = c.worlds_are_sound.ensures.sound plan h table lawful in
    let known = c.worlds_are_known.ensures plan h table sound.pool_lawful in
    held_is plan h lawful known d p k ks ns xs path
