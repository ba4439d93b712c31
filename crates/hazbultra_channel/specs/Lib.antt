pub mod Blocks
pub mod Ends
pub mod Handles
pub mod Lending
