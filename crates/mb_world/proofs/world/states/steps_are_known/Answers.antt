-- Proof of `states::steps_are_known`: what the laws of claims, of cells and of worlds give for a step of a consumer on
-- a lane.
use Rattle.mb_world.specs.Setups.{layout_of, plan_in}
use Rattle.mb_world.proofs.world.states.steps_are_known.Goals as goal

pub returns : goal.returns
returns c s h d p is ds ps =
    let plan = plan_in s.setup in
    let table = c.layouts_are_sound.ensures.table (layout_of s.setup) in
    let sound = c.worlds_are_sound.ensures.sound plan h table is.lawful in
    record {
      world = c.worlds_are_known.ensures plan h table sound.pool_lawful;
      goes = λ a ks ns held. c.history_extends.ensures.consumer plan h d p a ks ns held table is.lawful ds ps;
      stays = λ w. c.loads_leave_pools.ensures s.pool w;
    }
