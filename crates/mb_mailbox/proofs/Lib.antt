-- In the order of reading: a file uses only files above it.

-- Lists and sums
pub mod Lists
pub mod Marked
pub mod LaneLists
pub mod Totals
pub mod Marks
pub mod Zips
pub mod Turned
pub mod Listed
-- One access of a consumer
pub mod KnownLoads
pub mod Standings
pub mod Moving
pub mod NextSteps
pub mod Telling
pub mod Holding
pub mod Made
pub mod NewConsumer
-- A poll: many accesses
pub mod Polls
pub mod Grown
pub mod Looks
pub mod Competing
pub mod Pursuing
pub mod Starts
pub mod Ending
pub mod Beginnings
pub mod Straight
pub mod ShortPolls
pub mod ShortTakes
pub mod Taking
pub mod Meeting
pub mod Takes
-- A consumer at the end of a lane
pub mod Endings
pub mod EndsMet
-- Producers and the hub
pub mod Putting
pub mod Closing
pub mod HubMoves
pub mod HubRuns
-- A run of workers
pub mod RunEnds
pub mod Given
pub mod Runs
pub mod Loops
pub mod Called
pub mod PutEnds
pub mod Kept
pub mod Noted
pub mod Parted
pub mod Final
-- What is gathered
pub mod Filled
pub mod Diaries
pub mod ToldDiaries
pub mod TakenIn
pub mod Reported
pub mod Counted
