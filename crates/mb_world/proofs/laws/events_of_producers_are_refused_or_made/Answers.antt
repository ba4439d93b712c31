-- Proof of `laws::events_of_producers_are_refused_or_made`: a producer's event that is not refused has an access that
-- keeps the history lawful.
use Rattle.std.proofs.Common.{◌≡◌, ◌<◌, ◌^◌, ◌∷◌, arith}
use Rattle.mb_cells.specs.LanePath.{fetch, store}
use Rattle.mb_cells.specs.Memory.{ReadsLast, value_in}
use Rattle.mb_cells.specs.Standing.{lane_after_finish, lane_after_offer, lane_after_push, next_link}
use Rattle.mb_world.specs.Imports.{ActFits, Counter, END, IsLanePrefix, PoolAccess, Producer, part}
use Rattle.mb_world.specs.Plan.{size_of}
use Rattle.mb_world.specs.World.{ToCells, pool_accesses}
use Rattle.mb_world.specs.Worlds.{IsWorldLawful}
use Rattle.mb_world.proofs.MadeEvents.{finish_made, offer_made, push_made}
use Rattle.mb_world.proofs.ProducerEvents.{no_mark}
use Rattle.mb_world.proofs.ProducerSteps.{producer_goes_on}
use Rattle.mb_world.proofs.laws.events_of_producers_are_refused_or_made.Goals as goal

-- each clause takes the producer's place, and `goes`: with which accesses of the producer the history stays lawful
pub returns-clause-offer : goal.returns-clause-offer
returns-clause-offer c plan h p x table lawful ps xs few =
    let size = size_of plan in
    let pool = (c.worlds_are_sound.ensures.sound plan h table lawful).pool_lawful in
    let place = c.lanes_lead_on.ensures.lane plan.claims.cells p
    (part (Producer p) (pool_accesses h)) (lawful.producers p) in
    let goes : (a : PoolAccess) → a.process ≡ Producer p → ActFits a.act → ReadsLast a.word a.act (pool_accesses h)
    → IsLanePrefix plan.claims.cells p (a ∷ part (Producer p) (pool_accesses h)) → IsWorldLawful plan (ToCells a ∷ h) =
    λ a maker fits reads next.
    let now = c.history_extends.ensures.producer size (pool_accesses h) a p pool maker ps fits reads next in
    producer_goes_on plan h lawful p a maker now
    (λ q r k. c.cells_stand_once.ensures.lane size (a ∷ pool_accesses h) q r k now)
    (λ q. c.cells_stand_once.ensures.once size (a ∷ pool_accesses h) q now) in
    let bound = c.numbers_are_issued_once.ensures.bound size (pool_accesses h) pool in
    let small : value_in Counter (pool_accesses h) < 2 ^ 64 = omega (arith, bound, few) in
    offer_made plan h p ps place.0 place.1 goes x xs small
    (λ e free. c.lanes_lead_on.ensures.prefix plan.claims.cells p
    (lane_after_offer plan.claims.cells e.value e.cell place.0)
    (fetch p e ∷ part (Producer p) (pool_accesses h))
    (c.lanes_lead_on.ensures.offered plan.claims.cells p place.0 (part (Producer p) (pool_accesses h)) e place.1 free))

pub returns-clause-push : goal.returns-clause-push
returns-clause-push c plan h p table lawful ps =
    let size = size_of plan in
    let pool = (c.worlds_are_sound.ensures.sound plan h table lawful).pool_lawful in
    let place = c.lanes_lead_on.ensures.lane plan.claims.cells p
    (part (Producer p) (pool_accesses h)) (lawful.producers p) in
    let goes : (a : PoolAccess) → a.process ≡ Producer p → ActFits a.act → ReadsLast a.word a.act (pool_accesses h)
    → IsLanePrefix plan.claims.cells p (a ∷ part (Producer p) (pool_accesses h)) → IsWorldLawful plan (ToCells a ∷ h) =
    λ a maker fits reads next.
    let now = c.history_extends.ensures.producer size (pool_accesses h) a p pool maker ps fits reads next in
    producer_goes_on plan h lawful p a maker now
    (λ q r k. c.cells_stand_once.ensures.lane size (a ∷ pool_accesses h) q r k now)
    (λ q. c.cells_stand_once.ensures.once size (a ∷ pool_accesses h) q now) in
    let known = c.events_are_known.ensures plan h table lawful in
    push_made plan h p ps place.0 place.1 goes
    (λ s is. c.lanes_lead_on.ensures.prefix plan.claims.cells p (lane_after_push place.0)
    (store p s.0 s.1 ∷ part (Producer p) (pool_accesses h))
    (c.lanes_lead_on.ensures.pushed plan.claims.cells p place.0 (part (Producer p) (pool_accesses h)) s place.1 is))
    (λ w v is. c.accesses_stay_within.ensures.fits size (pool_accesses h) p place.0 w v pool place.1 is)
    (λ w v is. c.accesses_stay_within.ensures.push size p place.0
    (part (Producer p) (pool_accesses h)) w v ps place.1 is)
    (λ w is link. no_mark plan h known p place.0 w place.1 is link)

pub returns-clause-finish : goal.returns-clause-finish
returns-clause-finish c plan h p table lawful ps =
    let size = size_of plan in
    let pool = (c.worlds_are_sound.ensures.sound plan h table lawful).pool_lawful in
    let place = c.lanes_lead_on.ensures.lane plan.claims.cells p
    (part (Producer p) (pool_accesses h)) (lawful.producers p) in
    let goes : (a : PoolAccess) → a.process ≡ Producer p → ActFits a.act → ReadsLast a.word a.act (pool_accesses h)
    → IsLanePrefix plan.claims.cells p (a ∷ part (Producer p) (pool_accesses h)) → IsWorldLawful plan (ToCells a ∷ h) =
    λ a maker fits reads next.
    let now = c.history_extends.ensures.producer size (pool_accesses h) a p pool maker ps fits reads next in
    producer_goes_on plan h lawful p a maker now
    (λ q r k. c.cells_stand_once.ensures.lane size (a ∷ pool_accesses h) q r k now)
    (λ q. c.cells_stand_once.ensures.once size (a ∷ pool_accesses h) q now) in
    finish_made plan h p ps place.0 place.1 goes
    (λ free. c.lanes_lead_on.ensures.prefix plan.claims.cells p (lane_after_finish place.0)
    (store p (next_link p place.0) END ∷ part (Producer p) (pool_accesses h))
    (c.lanes_lead_on.ensures.finished plan.claims.cells p place.0 (part (Producer p) (pool_accesses h)) place.1 free))
