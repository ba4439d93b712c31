-- In the order of reading: a file uses only files above it.
pub mod Views
pub mod DeskMoves
pub mod Accounts
pub mod Lives
pub mod Endings
pub mod Refused
