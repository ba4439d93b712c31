-- In the order of reading: a file stands on files above it.

-- Bytes, words and lines
pub mod Ascii
pub mod Bound
pub mod KnownBytes
pub mod Cuts
pub mod Lines
pub mod Numerals
pub mod Spelled
-- The lines that spell a replay script are read as it, and lines that were read as a script spell it
pub mod ReadAgain
pub mod ManyLines
pub mod Lined
pub mod ReadBack
pub mod ScriptBack
-- The first fault of a script
pub mod AboutLines
pub mod FaultyLines
pub mod FirstWords
-- Replays and their answers
pub mod Replays
pub mod KnownAnswers
pub mod OneAnswer
-- Commands, and scripts that are too long
pub mod LongScripts
pub mod Exchanges
