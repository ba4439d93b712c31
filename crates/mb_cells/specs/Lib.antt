-- In the order of reading: a file stands on files above it.
pub mod Types
pub mod Size
pub mod Memory
pub mod LanePath
pub mod ReaderPath
pub mod Lawful
pub mod Lanes
pub mod Met
pub mod Place
pub mod Reading
pub mod Standing
pub mod Refusals
pub mod State
pub mod Block
pub mod Calls
pub mod CallLists
pub mod Samples
pub mod Vocabulary
-- the names that clauses use, also for the crates above
pub use Vocabulary.*
