-- In the order of reading: a file uses only files above it.

-- Lists of views and parts, and who stands at which seat
pub mod ViewLists
pub mod Seatings
-- Each step keeps the rule
pub mod AccessMoves
pub mod NextAccesses
pub mod DrawMoves
pub mod EnrolMoves
pub mod TakeMoves
-- What the calls of seats keep, find and put
pub mod SeatFacts
pub mod CallFacts
pub mod KnownLanes
pub mod PutMoves
