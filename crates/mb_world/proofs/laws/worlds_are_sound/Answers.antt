-- Proof of `laws::worlds_are_sound`: a lawful history of a world, cut into that of its claims and that of its cells, is
-- sound.
use Rattle.mb_world.specs.World.{histories_of}
use Rattle.mb_world.proofs.WorldClaims.{claims_lawful}
use Rattle.mb_world.proofs.WorldFits.{fit}
use Rattle.mb_world.proofs.WorldPool.{pool_lawful}
use Rattle.mb_world.proofs.laws.worlds_are_sound.Goals as goal

pub returns-clause-sound : goal.returns-clause-sound
returns-clause-sound c plan h table lawful =
    let pool = pool_lawful plan h lawful (c.readers_keep_to_lanes.ensures.whole plan.lanes) in
    let known = c.worlds_are_known.ensures plan h table pool in
    record {
      table = table;
      claims_lawful = claims_lawful plan h lawful known;
      pool_lawful = pool;
      fit = λ d ds. fit plan h lawful known d ds;
    }

pub returns-clause-main_theorem : goal.returns-clause-main_theorem
returns-clause-main_theorem c plan h r table lawful is =
    c.reports_have_one_assignment.ensures plan (histories_of h) r (returns-clause-sound c plan h table lawful) is
