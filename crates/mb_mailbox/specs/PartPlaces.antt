-- The part of a producer's seat, and the place to which that part leads.
use Rattle.mb_cells.specs.Vocabulary.{IsLaneAfter}
use Rattle.mb_shared_cells.specs.Vocabulary.{HasHistory, LaneSeatView}
use Rattle.mb_mailbox.specs.Imports.{Producer}
use Rattle.mb_mailbox.specs.Producers.{ProducerView}

-- some lawful history has the seat's part, and the seat's place is the one to which that part leads
pub record HasPart (s : LaneSeatView) : Type 0 where
  pub history : HasHistory s.table.size (Producer s.lane) s.part
  pub place : IsLaneAfter s.table.size.cells s.lane s.place s.part

-- the producer with this seat
abbrev pub with_seat : LaneSeatView → ProducerView → ProducerView
with_seat seat s = record s { seat = seat }
