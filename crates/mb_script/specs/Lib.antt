pub mod ActText
pub mod Devices
pub mod CommandIo
pub mod Faults
pub mod FewWords
pub mod FirstFault
pub mod ReplayText
pub mod Replaying
pub mod ReportText
pub mod Scripts
pub mod Shapes
pub mod Spelling
pub mod Steps
pub mod Tables
pub mod Text
pub mod Transcribed
pub mod Transcript
pub mod Vocabulary
-- the names that clauses use, also for the crates above
unfoldable pub use Vocabulary.*
