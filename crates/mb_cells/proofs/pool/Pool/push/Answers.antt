-- Proof of `Pool::push`: stores the item that was offered on lane `p`, and at the next call the link to its cell.
use Rattle.std.proofs.Common.{subst, sym, ◌<◌, ◌∙◌}
use Rattle.mb_cells.proofs.pool.Pool.push.Goals as goal
use Rattle.mb_cells.specs.{PoolState, history_after_push, lane_after_push, lane_count}
use Rattle.mb_cells.proofs.PoolSteps.{lane_here, push_made, sound_after}

-- the store and the new place are what the clause asks for. s is the pool's state before, and by lt it has lane p
pub returns-clause-meets : goal.returns-clause-meets
returns-clause-meets g c =
    let s : PoolState = record { words = c.self.inside.words; lanes = c.self.inside.lanes.items } in
    let lt : c.args.p < lane_count s =
    subst (λ (z : PoolState). c.args.p < lane_count z) (sym c.self.view_is) c.requires in
    let lane = c.index_mut-lane.result.now in
    let some = sym c.next_push.ensures ∙ c.in-Some.is in
    rw (← c.self.view_is, c.pushed.ensures.answer, c.pushed.ensures.lane, c.store.ensures)
    (push_made s c.args.p lane (c.in-Some.word, c.in-Some.value) lt c.self.invariant
    c.index_mut-lane.ensures.value some)

-- the history with the store leaves the pool, so the pool is still sound
pub invariant_of-self-2 : goal.invariant_of-self-2
invariant_of-self-2 g c =
    let s : PoolState = record { words = c.self.inside.words; lanes = c.self.inside.lanes.items } in
    let lt : c.args.p < lane_count s =
    subst (λ (z : PoolState). c.args.p < lane_count z) (sym c.self.view_is) c.requires in
    let lane = c.index_mut-lane.result.now in
    let some = sym c.next_push.ensures ∙ c.in-Some.is in
    let made = push_made s c.args.p lane (c.in-Some.word, c.in-Some.value) lt c.self.invariant
    c.index_mut-lane.ensures.value some in
    let h = c.self.invariant.history.0 in
    let was = c.self.invariant.history.1 in
    let then = made h lane was (lane_here h s c.args.p lane lt was c.index_mut-lane.ensures.value) in
    rw (c.pushed.ensures.lane, c.store.ensures)
    (sound_after s c.in-Some.word c.in-Some.value c.args.p (lane_after_push lane) c.self.invariant
    (history_after_push c.args.p lane h, then.1))
