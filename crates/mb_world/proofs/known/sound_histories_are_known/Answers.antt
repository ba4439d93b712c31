-- Proof of `known::sound_histories_are_known`: what the laws of claims and of cells give for two sound histories.
use Rattle.mb_world.specs.Plan.{size_of}
use Rattle.mb_world.proofs.known.sound_histories_are_known.Goals as goal

pub returns : goal.returns
returns c plan hs sound =
    let size = size_of plan in
    let lawful = sound.pool_lawful in
    record {
      winner = λ k. c.claims_have_one_winner.ensures plan.claims hs.claims k sound.table sound.claims_lawful;
      stage = λ d xs s q. c.prefixes_have_one_stage.ensures plan.claims d xs s q sound.table;
      claimant = λ d k some. let part = sound.claims_lawful.parts d k some in (part.0, part.2);
      fit = sound.fit;
      path = lawful.readers;
      start = λ q p ks. c.readers_follow_lanes.ensures.met size hs.pool q p ks lawful;
      chain = λ q k. c.readers_follow_lanes.ensures.chains size hs.pool q k lawful;
      item = λ q k x. c.loads_tell_what_stays.ensures.item size hs.pool q k x lawful;
      end = λ q p ks. c.end_marks_are_last.ensures.reader size hs.pool q p ks lawful;
      one_lane = λ p q k. c.cells_stand_once.ensures.lane size hs.pool p q k lawful;
      once = λ p. c.cells_stand_once.ensures.once size hs.pool p lawful;
    }
