-- In the order of reading: a file uses only files above it.
pub mod Types
pub mod Views
pub mod Rule
pub mod Shown
pub mod Calls
pub mod Seats
pub mod Samples
pub mod Vocabulary
-- the names that clauses use, also for the crates above
pub use Vocabulary.*
