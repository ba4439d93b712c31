-- In the order of reading: a file uses files above it.

-- Registers, turns and histories
pub mod Registers
pub mod FirstPlaces
pub mod Histories
pub mod Acts
-- Ratifiers
pub mod Sizes
pub mod Grammar
pub mod RatifierWords
pub mod Winner
pub mod Prefixes
pub mod Outputs
pub mod Lengths
-- Conciliators and last objects
pub mod ConciliatorPaths
pub mod Conciliators
pub mod ConciliatorPlaces
pub mod Lasts
-- Objects of each kind keep their promises
pub mod Owed
-- One access, and many
pub mod Advances
mod OneStep
mod ManySteps
mod StraightSteps
pub mod RatifierStepping
pub mod ConciliatorStepping
pub mod Stepping
-- How many accesses are left
pub mod TurnsLeft
pub mod MostLeft
-- Runs and traces
pub mod Refused
pub mod CourseTables
pub mod Courses
pub mod SameOp
pub mod RatifierNext
pub mod ConciliatorNext
pub mod OneTrace
pub mod OnePlace
-- Samples
pub mod SmallHistories
pub mod SmallLasts
