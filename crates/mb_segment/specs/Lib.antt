-- In the order of reading: a file stands on files above it.
pub mod Types
pub mod History
pub mod Walk
pub mod Sleeping
pub mod Slots
pub mod Passes
pub mod Heard
pub mod Rule
pub mod Moves
pub mod Steps
pub mod Whole
pub mod Laws
pub mod Seats
pub mod Answers
pub mod Waiting
pub mod Ending
pub mod Fates
pub mod Vocabulary
pub mod SegmentSamples
-- the names that clauses use, also for the crates above
pub use Vocabulary.*
