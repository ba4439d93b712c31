-- Proof of `SharedCells::finish`: stores the end mark of the lane.
use Rattle.std.proofs.Common.{ap, refl, subst, sym, ◌∙◌, ◌∷◌}
use Rattle.mb_cells.specs.Vocabulary.{IsLaneAfter, store}
use Rattle.mb_cells.specs.declared.access.PoolAct.TheVariants.{Store}
use Rattle.mb_cells.specs.declared.access.TheConstants.{END}
use Rattle.mb_cells.specs.declared.access.Word.{Word}
use Rattle.mb_cells.specs.declared.lane.Lane.{Lane}
use Rattle.mb_shared_cells.specs.Seats.{done_in, size_in}
use Rattle.mb_shared_cells.proofs.CallFacts.{LaneLaws, can_finish}
use Rattle.mb_shared_cells.proofs.SeatFacts.{lane_then}
use Rattle.mb_shared_cells.proofs.table.SharedCells.finish.Goals as goal

-- the access that `ghosts-store` names is this store
pub store-requires-clause-picked : goal.store-requires-clause-picked
store-requires-clause-picked g c = (refl, refl)

-- the seat can store the end mark, since its producer's place does not refuse the finish
pub store-requires-clause-can : goal.store-requires-clause-can
store-requires-clause-can g c =
    let laws : LaneLaws = record {
      prefix = c.lanes_lead_on.ensures.prefix;
      offered = c.lanes_lead_on.ensures.offered;
      pushed = c.lanes_lead_on.ensures.pushed;
      finished = c.lanes_lead_on.ensures.finished;
    } in
    let size = ap (λ v. v.table.size) c.seat.view_is ∙ ap (λ v. v.size) c.requires in
    can_finish laws c.accesses_stay_within.ensures.link c.args.self.now.size c.seat.inside.seat.me c.seat.inside.number
    c.seat.inside.place c.next_link-word.result c.seat.invariant size (sym c.finish_refusal.ensures ∙ c.in_default.is)
    c.next_link-word.ensures

-- after the store the seat has the place that `finished` gives, and its part, longer by the store, leads to that place
pub invariant_of-seat : goal.invariant_of-seat
invariant_of-seat g c =
    let me = c.seat.inside.seat.me in
    let number = c.seat.inside.number in
    let place = c.seat.inside.place in
    lane_then c.accesses_lengthen_one_part.ensures.own me c.store.new.seat.me number place c.finished.new.self
    c.next_link-word.result (Store END) c.seat.invariant c.store.ensures.makes
    (subst
    (λ (z : Lane × Word). IsLaneAfter (size_in me.0).cells number z.0 (store number z.1 END ∷ done_in me.0))
    (λ i. (sym c.finished.ensures i, sym c.next_link-word.ensures i))
    (c.lanes_lead_on.ensures.finished (size_in me.0).cells number place (done_in me.0) c.seat.invariant.stands
    (sym c.finish_refusal.ensures ∙ c.in_default.is)))
