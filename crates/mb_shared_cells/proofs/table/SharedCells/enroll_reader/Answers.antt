-- Proof of `SharedCells::enroll_reader`, which issues the seat of a new reader, with an empty part.
use Rattle.std.proofs.Common.{ap, arith, sym, ◌∙◌}
use Rattle.mb_shared_cells.specs.Seats.{roll_in, size_in}
use Rattle.mb_shared_cells.specs.Views.{SeatState}
use Rattle.mb_shared_cells.proofs.EnrolMoves.{reader_splits}
use Rattle.mb_shared_cells.proofs.table.SharedCells.enroll_reader.Goals as goal

-- the hub may split off the next reader's seat
pub split_seat-requires : goal.split_seat-requires
split_seat-requires g c =
    let me = c.hub.inside.seat.me in
    let same = ap (λ v. v.table.id) c.hub.view_is ∙ ap (λ v. v.id) c.requires ∙ sym (ap (λ v. v.id) c.self.view_is) in
    let wide = c.self.invariant.1 in (
      same,
      omega (arith, wide),
      reader_splits _ _ _ (size_in me.0) (roll_in me.0) (ap (λ (z : SeatState). z.0) c.hub.invariant.is),
    )
