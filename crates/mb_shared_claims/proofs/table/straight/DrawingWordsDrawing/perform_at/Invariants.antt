-- What the proof of `DrawingWords::perform_at` picks for its call of `make_at`.
use Rattle.mb_shared_claims.specs.SeatSteps.{access_of}
use Rattle.mb_shared_claims.proofs.table.straight.DrawingWordsDrawing.perform_at.Given as goal

-- the access that the call of `make_at` makes, by the value that it finds
abbrev pub ghosts-make_at : goal.ghosts-make_at
ghosts-make_at g a = record { access = λ found. access_of a.seat.now.consumer a.cell a.next found a.word }
