-- Proof of `steps::history_extends`: lawful histories of a world grow by one access after another.
use Rattle.std.specs.Prelude.{ℕ, List, [], ◌∷◌, Option, None, ◌≡◌}
use Rattle.mb_world.specs.declared.report.Note.{Note}
use Rattle.mb_world.specs.Imports.{Has, IsOnceEach, ObjectTurn, linked_cells}
use Rattle.mb_world.specs.Plan.{size_of}
use Rattle.mb_world.specs.World.{lane_part, pool_accesses}
use Rattle.mb_world.specs.ConsumerPath.{ConsumerPath, begins}
use Rattle.mb_world.proofs.ConsumerSteps.{goes_on, on, other_parts, own, own_part}
use Rattle.mb_world.proofs.ProducerSteps.{parts_stay, producer_goes_on}
use Rattle.mb_world.proofs.WorldClaims.{on_lane}
use Rattle.mb_world.proofs.steps.history_extends.Goals as goal

pub returns-clause-empty : goal.returns-clause-empty
returns-clause-empty c plan sized =
    let pool = c.history_extends.ensures.empty (size_of plan) sized in
    record {
      sized = sized;
      cells_fit = tt;
      claims_fit = tt;
      cells_memory = tt;
      claims_memory = tt;
      producers = pool.producers;
      consumers = λ d q ds qs. record { cells = []; notes = []; held = None; path = begins };
      no_others = λ d a has by_d. absurd has;
    }

pub returns-clause-consumer : goal.returns-clause-consumer
returns-clause-consumer c plan h d p a ks ns held table lawful ds ps may next =
    let sound = c.worlds_are_sound.ensures.sound plan h table lawful in
    let known = c.worlds_are_known.ensures plan h table sound.pool_lawful in
    let start : (e q : ℕ) (js : List ℕ) (ms : List Note) (z : Option (List ObjectTurn))
    → ConsumerPath plan.claims e q (lane_part e q h) js ms z → (k : ℕ) → Has js k
    → Has (linked_cells q (pool_accesses h)) k =
    λ e q js ms z s k has. on_lane plan h lawful known e q k
    (record { cells = js; notes = ms; held = z; path = s }) has in
    record {
      maker = own plan h lawful known.one_lane start d p ds ps a may ks ns held next;
      on = on plan h lawful known.one_lane start d p ds ps a may ks ns held next;
      lawful = goes_on plan h lawful known.one_lane start d p ds ps a may ks ns held next;
      own = own_part plan h lawful known.one_lane start d p ds ps a may ks ns held next;
      others = other_parts plan h lawful known.one_lane start d p ds ps a may ks ns held next;
    }

pub returns-clause-producer : goal.returns-clause-producer
returns-clause-producer c plan h p a lawful maker now =
    let size = size_of plan in
    let once : (q : ℕ) → IsOnceEach (linked_cells q (a ∷ pool_accesses h)) =
    λ q. c.cells_stand_once.ensures.once size (a ∷ pool_accesses h) q now in
    let one : (p q k : ℕ) → Has (linked_cells p (a ∷ pool_accesses h)) k
    → Has (linked_cells q (a ∷ pool_accesses h)) k → p ≡ q =
    λ p q k. c.cells_stand_once.ensures.lane size (a ∷ pool_accesses h) p q k now in
    record {
      lawful = producer_goes_on plan h lawful p a maker now one once;
      others = parts_stay plan h lawful p a maker now one once;
    }
