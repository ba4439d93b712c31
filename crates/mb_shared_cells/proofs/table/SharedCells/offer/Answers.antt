-- Proof of `SharedCells::offer`: takes the next cell for item `x`, by one fetch-add of the counter.
use Rattle.std.proofs.Common.{ap, refl, subst, sym, ◌∙◌, ◌∷◌, ◌≡◌}
use Rattle.mb_cells.specs.Vocabulary.{IsLaneAfter, fetch, lane_after_offer}
use Rattle.mb_cells.specs.declared.access.PoolAct.TheVariants.{FetchAdd}
use Rattle.mb_cells.specs.declared.access.Word.TheVariants.{Counter}
use Rattle.mb_cells.specs.declared.lane.Lane.{Lane}
use Rattle.mb_cells.specs.declared.size.PoolSize.{PoolSize}
use Rattle.mb_shared_cells.specs.Seats.{done_in, size_in}
use Rattle.mb_shared_cells.proofs.CallFacts.{LaneLaws, can_fetch}
use Rattle.mb_shared_cells.proofs.SeatFacts.{lane_then}
use Rattle.mb_shared_cells.proofs.table.SharedCells.offer.Goals as goal

-- the access that `ghosts-fetch_add` names is this fetch-add
pub fetch_add-found-requires-clause-picked : goal.fetch_add-found-requires-clause-picked
fetch_add-found-requires-clause-picked g c = (refl, refl)

-- the seat can make the fetch-add, since its producer's place refuses no offer
pub fetch_add-found-requires-clause-can : goal.fetch_add-found-requires-clause-can
fetch_add-found-requires-clause-can g c =
    let laws : LaneLaws = record {
      prefix = c.lanes_lead_on.ensures.prefix;
      offered = c.lanes_lead_on.ensures.offered;
      pushed = c.lanes_lead_on.ensures.pushed;
      finished = c.lanes_lead_on.ensures.finished;
    } in
    let size = ap (λ v. v.table.size) c.seat.view_is ∙ ap (λ v. v.size) c.requires in
    can_fetch laws c.args.self.now.size c.seat.inside.seat.me c.seat.inside.number c.seat.inside.place c.args.x
    c.seat.invariant size (sym c.offer_refusal.ensures ∙ c.in_default.is)

-- after the fetch-add the seat has the place that `offered` gives, and its part with the fetch-add leads to that place
pub invariant_of-seat : goal.invariant_of-seat
invariant_of-seat g c =
    let me = c.seat.inside.seat.me in
    let number = c.seat.inside.number in
    let place = c.seat.inside.place in
    let found = c.fetch_add-found.result in
    let size : size_in me.0 ≡ c.self.inside.size =
    ap (λ v. v.table.size) c.seat.view_is ∙ ap (λ v. v.size) c.requires ∙ sym (ap (λ v. v.size) c.self.view_is) in
    let is : lane_after_offer (size_in me.0).cells c.args.x found place ≡ c.offered.new.self =
    ap (λ (z : PoolSize). lane_after_offer z.cells c.args.x found place) size ∙ sym c.offered.ensures.lane in
    lane_then c.accesses_lengthen_one_part.ensures.own me c.fetch_add-found.new.seat.me number place c.offered.new.self
    Counter (FetchAdd c.args.x found) c.seat.invariant c.fetch_add-found.ensures.makes
    (subst
    (λ (z : Lane). IsLaneAfter (size_in me.0).cells number z
    (fetch number (record { cell = found; value = c.args.x }) ∷ done_in me.0)) is
    (c.lanes_lead_on.ensures.offered (size_in me.0).cells number place (done_in me.0)
    (record { cell = found; value = c.args.x }) c.seat.invariant.stands
    (sym c.offer_refusal.ensures ∙ c.in_default.is)))
