-- In the order of reading: a file uses only files above it.

-- Lists, positions and cells
pub mod Lists
pub mod Positions
pub mod Cells
pub mod ReportPositions
pub mod ReportLists
-- What one consumer loaded, and what its diary shows
pub mod ReaderParts
pub mod Loads
pub mod Diaries
pub mod LaneEnds
-- A report has one assignment, and what was done has one report
pub mod Settled
pub mod Assigned
pub mod Recorded
pub mod LastObjects
pub mod Competitors
pub mod OneReport
-- The path of one consumer on one lane, and its two parts
pub mod Claimed
pub mod Tracks
pub mod PathLoads
pub mod LaneParts
pub mod PathDiaries
pub mod LastAccess
pub mod OnePlace
pub mod FitSteps
-- Lawful histories of a world
pub mod WorldPool
pub mod WorldClaims
pub mod WorldFollows
pub mod WorldFits
pub mod WorldDiaries
pub mod MetCells
-- One more access, one replay, and steps that find nothing
pub mod ConsumerSteps
pub mod ProducerSteps
pub mod MadeEvents
pub mod RefusedEvents
pub mod ProducerEvents
pub mod ConsumerEvents
pub mod OneReplay
pub mod NothingFound
-- The state of a world, and its report
pub mod NewWorlds
pub mod FreshClaims
pub mod Grids
pub mod StateNotes
pub mod LaneWalks
pub mod StateLists
pub mod ReportParts
pub mod StateReports
-- The state after one more access
pub mod StateEnds
pub mod StateSteps
pub mod LoadStates
pub mod LookStates
pub mod HeldStates
pub mod TakeStates
pub mod CompeteStates
pub mod ProducerStates
pub mod ClaimNotes
-- Samples
pub mod OneLaneReports
pub mod AgreeingReports
pub mod SampleWorlds
pub mod SampleReports
