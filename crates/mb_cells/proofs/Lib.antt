-- In the order of reading: a file uses files above it.

-- Words and parts
pub mod Names
pub mod Parts
pub mod Places
-- The counter and the words of a producer
pub mod Counter
pub mod ProducerWords
-- What holds of every lawful history
pub mod Histories
pub mod Items
pub mod ReaderChains
pub mod EndMarks
pub mod ReaderParts
pub mod PutLists
-- One more access
pub mod OneStep
pub mod Counts
pub mod LaneSteps
pub mod NextAccesses
pub mod LaneRefusals
-- The state of a pool, and its calls
pub mod PoolSteps
pub mod Blocks
pub mod LaneReading
pub mod CallHistories
pub mod CallLaws
pub mod CallNumbers
pub mod Totals
