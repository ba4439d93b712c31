-- In the order of reading: a file uses files above it.

-- Lists of parts and views
pub mod Rolls
pub mod Holders
-- Each step keeps the rule
pub mod Plans
pub mod Moves
-- A claim's accesses from a seat
pub mod Accesses
pub mod ClaimMoves
pub mod Running
pub mod Sites
pub mod Exchanging
-- Names of tables, and how a table is closed
pub mod Names
pub mod Closing
