-- Proof of `Pool::finish`: stores the end mark of lane `p`.
use Rattle.std.proofs.Common.{subst, sym, ◌<◌, ◌∙◌}
use Rattle.mb_cells.proofs.pool.Pool.finish.Goals as goal
use Rattle.mb_cells.specs.{END, PoolState, history_after_finish, lane_after_finish, lane_count, next_link}
use Rattle.mb_cells.proofs.PoolSteps.{finish_made, lane_here, sound_after}

-- the store and the new place are what the clause asks for. s is the pool's state before, and by lt it has lane p
pub returns-clause-meets : goal.returns-clause-meets
returns-clause-meets g c =
    let s : PoolState = record { words = c.self.inside.words; lanes = c.self.inside.lanes.items } in
    let lt : c.args.p < lane_count s =
    subst (λ (z : PoolState). c.args.p < lane_count z) (sym c.self.view_is) c.requires in
    let lane = c.index_mut-lane.result.now in
    let going = sym c.finish_refusal.ensures ∙ c.in_default.is in
    rw (← c.self.view_is, c.finished.ensures, c.store.ensures, c.next_link.ensures)
    (finish_made s c.args.p lane lt c.self.invariant c.index_mut-lane.ensures.value going)

-- the history with the store leaves the pool, so the pool is still sound
pub invariant_of-self-2 : goal.invariant_of-self-2
invariant_of-self-2 g c =
    let s : PoolState = record { words = c.self.inside.words; lanes = c.self.inside.lanes.items } in
    let lt : c.args.p < lane_count s =
    subst (λ (z : PoolState). c.args.p < lane_count z) (sym c.self.view_is) c.requires in
    let lane = c.index_mut-lane.result.now in
    let going = sym c.finish_refusal.ensures ∙ c.in_default.is in
    let made = finish_made s c.args.p lane lt c.self.invariant c.index_mut-lane.ensures.value going in
    let h = c.self.invariant.history.0 in
    let was = c.self.invariant.history.1 in
    let then = made h lane was (lane_here h s c.args.p lane lt was c.index_mut-lane.ensures.value) in
    rw (c.finished.ensures, c.store.ensures, c.next_link.ensures)
    (sound_after s (next_link c.args.p lane) END c.args.p (lane_after_finish lane) c.self.invariant
    (history_after_finish c.args.p lane h, then.1))
