-- In the order of reading: a file stands on files above it.
pub mod Types
pub mod Slots
pub mod Passes
pub mod Moves
pub mod Rule
pub mod Steps
pub mod Laws
pub mod Seats
pub mod Answers
pub mod Waiting
pub mod Ending
pub mod Vocabulary
pub mod RingSamples
-- the names that clauses use, also for the crates above
pub use Vocabulary.*
