-- The files in the order of reading: each uses only files above it.

-- Lists, turns and histories
pub mod Lists
pub mod Turns
pub mod ObjectHistories
pub mod Parts
pub mod KindLaws
pub mod Unique
pub mod Prefixes
pub mod OlderHistories
pub mod Cells
pub mod ConsumerParts
-- One winner
pub mod Family
pub mod Agreeing
pub mod Contest
pub mod CellFamily
pub mod Winner
-- One more access
pub mod HistorySteps
pub mod PassedObjects
pub mod UsedObjects
pub mod Standing
pub mod ClaimSteps
mod ManyClaimSteps
pub mod FirstAccess
pub mod NextSteps
-- The words of a claim
pub mod Words
pub mod Addresses
pub mod LayoutObjects
pub mod PairRows
pub mod ShapedAddresses
pub mod States
-- How many accesses a claim makes
pub mod Bounds
pub mod StepsLeft
pub mod MostSteps
-- A claim that goes straight
pub mod Straight
-- The fast path and the last object
pub mod FastPath
pub mod PassedRatifiers
pub mod LastObjects
-- Plays
pub mod PlaySteps
pub mod OnePlay
-- Samples
pub mod LawfulSamples
pub mod ShapedSamples
pub mod LastSamples
pub mod UnlawfulSamples
