-- In the order of reading: a file uses files above it.
pub mod Types
pub mod Views
pub mod ViewSteps
pub mod Rule
pub mod Seats
pub mod SeatSteps
pub mod ManySeatSteps
pub mod Vocabulary
-- a clause names what these lines pass on without its file: `Rattle.mb_shared_claims.specs.NAME`
pub use Types.*
pub use Views.*
pub use ViewSteps.*
pub use Rule.*
pub use Seats.*
pub use SeatSteps.*
pub use ManySeatSteps.*
