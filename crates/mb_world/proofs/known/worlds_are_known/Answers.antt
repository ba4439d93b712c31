-- Proof of `known::worlds_are_known`: what the laws of claims and of cells give for a history of a world whose accesses
-- to cells are lawful.
use Rattle.mb_world.specs.Plan.{size_of}
use Rattle.mb_world.specs.World.{pool_accesses}
use Rattle.mb_world.proofs.known.worlds_are_known.Goals as goal

pub returns : goal.returns
returns c plan h table pool =
    let size = size_of plan in
    record {
      start = λ q p ks. c.readers_follow_lanes.ensures.met size (pool_accesses h) q p ks pool;
      once = λ p. c.cells_stand_once.ensures.once size (pool_accesses h) p pool;
      within = λ p k has. (c.cells_stand_once.ensures.within size (pool_accesses h) p k pool has).1;
      one_lane = λ p q k. c.cells_stand_once.ensures.lane size (pool_accesses h) p q k pool;
      stage = λ d xs s r. c.prefixes_have_one_stage.ensures plan.claims d xs s r table;
    }
