-- Proof of `laws::events_are_known`: what the laws of claims, of cells and of worlds give for one more access after a
-- lawful history of a world.
use Rattle.std.proofs.Common.{◌∷◌, ℕ}
use Rattle.mb_world.specs.Imports.{Producer, part}
use Rattle.mb_world.specs.Plan.{size_of}
use Rattle.mb_world.specs.World.{claim_accesses, pool_accesses}
use Rattle.mb_world.proofs.laws.events_are_known.Goals as goal

pub returns : goal.returns
returns c plan h table lawful =
    let cells = plan.claims.cells in
    let done = λ (p : ℕ). part (Producer p) (pool_accesses h) in
    let sound = c.worlds_are_sound.ensures.sound plan in
    record {
      sized = lawful.sized;
      place = λ p. c.lanes_lead_on.ensures.lane cells p (done p) (lawful.producers p);
      one_place = λ p l other. c.lanes_lead_on.ensures.one cells p l other (done p);
      fetches = λ p l. c.lanes_lead_on.ensures.fetches cells p l (done p);
      stores = λ p l. c.lanes_lead_on.ensures.stores cells p l (done p);
      one_lane = λ p q k. c.cells_stand_once.ensures.lane (size_of plan) (pool_accesses h) p q k
          (sound h table lawful).pool_lawful;
      one_stage = λ d xs s r. c.prefixes_have_one_stage.ensures plan.claims d xs s r table;
      going = c.claims_have_one_next_op.ensures.going plan.claims;
      claims = λ a longer. (sound (a ∷ h) table longer).claims_lawful;
      one_claim_access = λ a b. c.claims_have_one_next_op.ensures.access plan.claims a b (claim_accesses h) table;
    }
