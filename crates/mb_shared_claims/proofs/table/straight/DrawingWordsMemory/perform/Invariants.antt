-- What the proof of `DrawingWords::perform` picks for its call of `make`.
use Rattle.mb_shared_claims.specs.SeatSteps.{access_of}
use Rattle.mb_shared_claims.proofs.table.straight.DrawingWordsMemory.perform.Given as goal

-- the access that the call of `make` makes, by the value that it finds
abbrev pub ghosts-make : goal.ghosts-make
ghosts-make g a = record { access = λ found. access_of a.seat.now.consumer a.cell a.next found a.word }
