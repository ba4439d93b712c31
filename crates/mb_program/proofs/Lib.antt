-- In the order of reading: a file stands on files above it.

-- Scripts of the command `ratify`
pub mod LongScripts
pub mod ScriptSpelling
-- Where clap's text goes
pub mod Told
-- The command line: what clap makes of it
pub mod NumbersGiven
pub mod ShapesGiven
pub mod SameWalk
pub mod SameFaults
pub mod SameProgram
pub mod Programs
pub mod Commands
-- The command `run`
pub mod RunSetups
pub mod RunItems
pub mod RunLanes
pub mod RunNotes
pub mod RunReports
pub mod ReportedRuns
pub mod RunEnds
