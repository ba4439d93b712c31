-- Proof of `SharedCells::push`: stores the item that was offered, and at the next call the link to its cell.
use Rattle.std.proofs.Common.{ap, refl, subst, sym, ◌∙◌, ◌∷◌}
use Rattle.mb_cells.specs.Vocabulary.{IsLaneAfter, store}
use Rattle.mb_cells.specs.declared.access.PoolAct.TheVariants.{Store}
use Rattle.mb_cells.specs.declared.lane.Lane.{Lane}
use Rattle.mb_shared_cells.specs.Seats.{done_in, size_in}
use Rattle.mb_shared_cells.proofs.CallFacts.{LaneLaws, can_push}
use Rattle.mb_shared_cells.proofs.SeatFacts.{lane_then}
use Rattle.mb_shared_cells.proofs.table.SharedCells.push.Goals as goal

-- the access that `ghosts-store` names is this store
pub store-requires-clause-picked : goal.store-requires-clause-picked
store-requires-clause-picked g c = (refl, refl)

-- the seat can make the store that the push makes at its producer's place
pub store-requires-clause-can : goal.store-requires-clause-can
store-requires-clause-can g c =
    let laws : LaneLaws = record {
      prefix = c.lanes_lead_on.ensures.prefix;
      offered = c.lanes_lead_on.ensures.offered;
      pushed = c.lanes_lead_on.ensures.pushed;
      finished = c.lanes_lead_on.ensures.finished;
    } in
    let size = ap (λ v. v.table.size) c.seat.view_is ∙ ap (λ v. v.size) c.requires in
    can_push laws c.accesses_stay_within.ensures.push c.args.self.now.size c.seat.inside.seat.me c.seat.inside.number
    c.seat.inside.place c.in-Some.word c.in-Some.value c.seat.invariant size (sym c.next_push.ensures ∙ c.in-Some.is)

-- after the store the seat has the place that `pushed` gives, and its part, longer by the store, leads to that place
pub invariant_of-seat : goal.invariant_of-seat
invariant_of-seat g c =
    let me = c.seat.inside.seat.me in
    let number = c.seat.inside.number in
    let place = c.seat.inside.place in
    let word = c.in-Some.word in
    let value = c.in-Some.value in
    lane_then c.accesses_lengthen_one_part.ensures.own me c.store.new.seat.me number place c.pushed-answer.new.self word
    (Store value) c.seat.invariant c.store.ensures.makes
    (subst (λ (z : Lane). IsLaneAfter (size_in me.0).cells number z (store number word value ∷ done_in me.0))
    (sym c.pushed-answer.ensures.lane)
    (c.lanes_lead_on.ensures.pushed (size_in me.0).cells number place (done_in me.0) (word, value)
    c.seat.invariant.stands (sym c.next_push.ensures ∙ c.in-Some.is)))
