-- Proof of `SharedCells::enroll_lane`, which issues the seat of the next lane, with an empty part.
use Rattle.std.proofs.Common.{ap, arith, sym, ◌∙◌}
use Rattle.mb_shared_cells.specs.Seats.{roll_in, size_in}
use Rattle.mb_shared_cells.specs.Views.{SeatState, hub_after_draw}
use Rattle.mb_shared_cells.proofs.DrawMoves.{draw_asked}
use Rattle.mb_shared_cells.proofs.EnrolMoves.{lane_splits}
use Rattle.mb_shared_cells.proofs.table.SharedCells.enroll_lane.Goals as goal

-- the hub may draw the next number, since fewer lanes were issued than there are
pub fetch_add-requires : goal.fetch_add-requires
fetch_add-requires g c =
    let me = c.hub.inside.seat.me in
    let same = ap (λ v. v.table.id) c.hub.view_is ∙ ap (λ v. v.id) c.requires ∙ sym (ap (λ v. v.id) c.self.view_is) in
    let few = c.if-hub-self.false in
    let count = c.hub.invariant.count in
    let wide = c.self.invariant.1 in
    let there = c.roster-roster.ensures in (
      same,
      omega (arith, there, wide),
      draw_asked c.words_follow_steps.ensures.more _ c.self.inside.size _ _ _ _ (size_in me.0) (roll_in me.0)
          c.self.invariant.0 c.hub.invariant.is there (omega arith) c.self.invariant.3,
    )

-- the hub, which has drawn the number, may split off the lane's seat
pub split_seat-seat-requires : goal.split_seat-seat-requires
split_seat-seat-requires g c =
    let me = c.hub.inside.seat.me in
    let same = ap (λ v. v.table.id) c.hub.view_is ∙ ap (λ v. v.id) c.requires ∙ sym (ap (λ v. v.id) c.self.view_is) in
    let wide = c.self.invariant.1 in
    let e = c.fetch_add.ensures in
    let is = ap (λ (z : SeatState). z.0) (e.2 ∙ ap (λ (z : SeatState). (hub_after_draw z.0, z.1)) c.hub.invariant.is) in
    (e.0 ∙ same, omega (arith, wide), lane_splits _ _ _ (size_in me.0) (roll_in me.0) is)
