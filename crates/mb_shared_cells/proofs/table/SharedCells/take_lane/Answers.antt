-- Proof of `SharedCells::take_lane`: takes a lane's seat back, at any time.
use Rattle.std.proofs.Common.{[], ap, arith, sym, ◌∙◌}
use Rattle.mb_cells.specs.declared.access.Process.TheVariants.{Producer}
use Rattle.mb_shared_cells.specs.Seats.{done_in, roll_in, size_in}
use Rattle.mb_shared_cells.specs.Views.{SeatState, hub_after_join}
use Rattle.mb_shared_cells.proofs.TakeMoves.{join_asked, load_asked}
use Rattle.mb_shared_cells.proofs.table.SharedCells.take_lane.Goals as goal

-- hub and seat are of this table, and their views may be joined
pub join_seat-requires : goal.join_seat-requires
join_seat-requires g c =
    let me = c.hub.inside.seat.me in
    let its = c.seat.inside.seat.me in
    let same = ap (λ v. v.table.id) c.hub.view_is ∙ ap (λ v. v.id) c.requires.hub
    ∙ sym (ap (λ v. v.id) c.self.view_is) in
    let theirs = ap (λ v. v.table.id) c.seat.view_is ∙ ap (λ v. v.id) c.requires.seat
    ∙ sym (ap (λ v. v.id) c.self.view_is) in
    let wide = c.self.invariant.1 in (
      same,
      theirs,
      ap (λ (z : SeatState). z.1) c.seat.invariant.is,
      omega (arith, wide),
      join_asked _ _ _ _ _ (size_in me.0) (size_in its.0) (roll_in me.0)
          (Producer c.seat.inside.number) [] (done_in its.0)
          (ap (λ (z : SeatState). z.0) c.hub.invariant.is) (ap (λ (z : SeatState). z.0) c.seat.invariant.is),
    )

-- the hub, which has joined the seat to its own, may put the seat's part into its roll
pub load-requires : goal.load-requires
load-requires g c =
    let me = c.hub.inside.seat.me in
    let its = c.seat.inside.seat.me in
    let same = ap (λ v. v.table.id) c.hub.view_is ∙ ap (λ v. v.id) c.requires.hub
    ∙ sym (ap (λ v. v.id) c.self.view_is) in
    let wide = c.self.invariant.1 in
    let joined = c.join_seat.ensures in
    let is = joined.2 ∙ (λ i. (
      hub_after_join (c.hub.invariant.is i).0 (c.seat.invariant.is i).0,
      (c.hub.invariant.is i).1,
    )) in (
      joined.0 ∙ same,
      omega (arith, wide),
      load_asked _ _ _ _ (size_in me.0) (roll_in me.0) (Producer c.seat.inside.number) (done_in its.0) is,
    )
