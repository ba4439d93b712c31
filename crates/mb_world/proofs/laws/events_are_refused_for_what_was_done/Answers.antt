-- Proof of `laws::events_are_refused_for_what_was_done`: what a producer has done decides whether its event is refused,
-- and with which answer.
use Rattle.std.proofs.Common.{false, true, ◌≡◌}
use Rattle.mb_cells.specs.declared.answer.Finish.TheVariants as finish
use Rattle.mb_cells.specs.declared.answer.Offer.TheVariants as offer
use Rattle.mb_world.specs.Imports.{HasFoundNone, HasPending, Producer, has_ended, part}
use Rattle.mb_world.specs.Plan.{size_of}
use Rattle.mb_world.specs.World.{pool_accesses}
use Rattle.mb_world.proofs.RefusedEvents.{finish_free, finish_refused, offer_free, offer_refused, push_refused}
use Rattle.mb_world.proofs.laws.events_are_refused_for_what_was_done.Goals as goal

-- each clause is a lemma of `RefusedEvents`, applied to the producer's place and to the law of cells on that place
pub returns-clause-closed : goal.returns-clause-closed
returns-clause-closed c plan h p x table lawful ps =
    offer_refused plan h p ps (c.lanes_lead_on.ensures.lane plan.claims.cells p
    (part (Producer p) (pool_accesses h)) (lawful.producers p)) x offer.Closed
    (has_ended p (pool_accesses h) ≡ true)
    (λ lane at. c.lanes_refuse_by_what_was_done.ensures.closed (size_of plan) (pool_accesses h)
    p lane (c.worlds_are_sound.ensures.sound plan h table lawful).pool_lawful at)

pub returns-clause-busy : goal.returns-clause-busy
returns-clause-busy c plan h p x table lawful ps =
    offer_refused plan h p ps (c.lanes_lead_on.ensures.lane plan.claims.cells p
    (part (Producer p) (pool_accesses h)) (lawful.producers p)) x offer.Busy
    (HasPending plan.claims.cells p (pool_accesses h))
    (λ lane at. c.lanes_refuse_by_what_was_done.ensures.busy (size_of plan) (pool_accesses h) p
    lane (c.worlds_are_sound.ensures.sound plan h table lawful).pool_lawful at)

pub returns-clause-full : goal.returns-clause-full
returns-clause-full c plan h p x table lawful ps =
    offer_refused plan h p ps (c.lanes_lead_on.ensures.lane plan.claims.cells p
    (part (Producer p) (pool_accesses h)) (lawful.producers p)) x offer.Full
    ((has_ended p (pool_accesses h) ≡ false) × HasFoundNone plan.claims.cells p
    (pool_accesses h)) (λ lane at. c.lanes_refuse_by_what_was_done.ensures.full (size_of plan)
    (pool_accesses h) p lane (c.worlds_are_sound.ensures.sound plan h table lawful).pool_lawful
    at)

pub returns-clause-offered : goal.returns-clause-offered
returns-clause-offered c plan h p x r table lawful ps still pending none =
    offer_free plan h p ps (c.lanes_lead_on.ensures.lane plan.claims.cells p
    (part (Producer p) (pool_accesses h)) (lawful.producers p)) x r
    (λ lane at. c.lanes_refuse_by_what_was_done.ensures.free (size_of plan) (pool_accesses h) p
    lane (c.worlds_are_sound.ensures.sound plan h table lawful).pool_lawful at still pending
    none)

pub returns-clause-idle : goal.returns-clause-idle
returns-clause-idle c plan h p r table lawful ps =
    push_refused plan h p ps (c.lanes_lead_on.ensures.lane plan.claims.cells p
    (part (Producer p) (pool_accesses h)) (lawful.producers p)) r
    (HasPending plan.claims.cells p (pool_accesses h) → ⊥)
    (λ lane at. c.lanes_refuse_by_what_was_done.ensures.idle (size_of plan) (pool_accesses h) p
    lane (c.worlds_are_sound.ensures.sound plan h table lawful).pool_lawful at)

pub returns-clause-over : goal.returns-clause-over
returns-clause-over c plan h p table lawful ps =
    finish_refused plan h p ps (c.lanes_lead_on.ensures.lane plan.claims.cells p
    (part (Producer p) (pool_accesses h)) (lawful.producers p)) finish.Closed
    (has_ended p (pool_accesses h) ≡ true)
    (λ lane at. c.lanes_refuse_by_what_was_done.ensures.finish_closed (size_of plan)
    (pool_accesses h) p lane (c.worlds_are_sound.ensures.sound plan h table lawful).pool_lawful
    at)

pub returns-clause-held : goal.returns-clause-held
returns-clause-held c plan h p table lawful ps =
    finish_refused plan h p ps (c.lanes_lead_on.ensures.lane plan.claims.cells p
    (part (Producer p) (pool_accesses h)) (lawful.producers p)) finish.Busy
    (HasPending plan.claims.cells p (pool_accesses h))
    (λ lane at. c.lanes_refuse_by_what_was_done.ensures.finish_busy (size_of plan)
    (pool_accesses h) p lane (c.worlds_are_sound.ensures.sound plan h table lawful).pool_lawful
    at)

pub returns-clause-finished : goal.returns-clause-finished
returns-clause-finished c plan h p r table lawful ps still pending =
    finish_free plan h p ps (c.lanes_lead_on.ensures.lane plan.claims.cells p
    (part (Producer p) (pool_accesses h)) (lawful.producers p)) r
    (λ lane at. c.lanes_refuse_by_what_was_done.ensures.finish_free (size_of plan)
    (pool_accesses h) p lane (c.worlds_are_sound.ensures.sound plan h table lawful).pool_lawful
    at still pending)
