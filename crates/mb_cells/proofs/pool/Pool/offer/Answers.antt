-- Proof of `Pool::offer`: takes the next cell for item `x` of lane `p`, by one fetch-add of the counter.
use Rattle.std.proofs.Common.{arith, subst, sym, ◌+◌, ◌<◌, ◌∙◌}
use Rattle.mb_cells.proofs.pool.Pool.offer.Goals as goal
use Rattle.mb_cells.specs.{Counter, PoolState, cell_count, history_after_offer, lane_after_offer, lane_count, value_in}
use Rattle.mb_cells.proofs.PoolSteps.{counter_small, lane_here, offer_made, sound_after}

-- the counter does not wrap. In these clauses s is the pool's state before the call, and by lt it has lane p
pub overflow_add-found : goal.overflow_add-found
overflow_add-found g c =
    let s : PoolState = record { words = c.self.inside.words; lanes = c.self.inside.lanes.items } in
    omega (arith, c.load-found.ensures, counter_small s c.self.invariant)

-- the fetch-add and the new place are what the clause asks for
pub returns-clause-meets : goal.returns-clause-meets
returns-clause-meets g c =
    let s : PoolState = record { words = c.self.inside.words; lanes = c.self.inside.lanes.items } in
    let lt : c.args.p < lane_count s =
    subst (λ (z : PoolState). c.args.p < lane_count z) (sym c.self.view_is) c.requires in
    let lane = c.index_mut-lane.result.now in
    let going = sym c.offer_refusal.ensures ∙ c.in_default.is in
    let small = counter_small s c.self.invariant in
    rw (
      ← c.self.view_is,
      c.offered.ensures.answer,
      c.offered.ensures.lane,
      c.store.ensures,
      c.cells-cells.ensures,
      c.load-found.ensures,
    )
    (offer_made s c.args.p c.args.x lane lt c.index_mut-lane.ensures.value going c.ranges.x.fits (omega (arith, small)))

-- the history with the fetch-add leaves the pool, so the pool is still sound
pub invariant_of-self-2 : goal.invariant_of-self-2
invariant_of-self-2 g c =
    let s : PoolState = record { words = c.self.inside.words; lanes = c.self.inside.lanes.items } in
    let lt : c.args.p < lane_count s =
    subst (λ (z : PoolState). c.args.p < lane_count z) (sym c.self.view_is) c.requires in
    let lane = c.index_mut-lane.result.now in
    let going = sym c.offer_refusal.ensures ∙ c.in_default.is in
    let small = counter_small s c.self.invariant in
    let made = offer_made s c.args.p c.args.x lane lt c.index_mut-lane.ensures.value going
    c.ranges.x.fits (omega (arith, small)) in
    let h = c.self.invariant.history.0 in
    let was = c.self.invariant.history.1 in
    let then = made h lane was (lane_here h s c.args.p lane lt was c.index_mut-lane.ensures.value) in
    rw (c.offered.ensures.lane, c.store.ensures, c.cells-cells.ensures, c.load-found.ensures)
    (sound_after s Counter (s.words.counter + 1) c.args.p
    (lane_after_offer (cell_count s) c.args.x s.words.counter lane) c.self.invariant
    (history_after_offer c.args.p c.args.x (value_in Counter h) lane h, then.1))
