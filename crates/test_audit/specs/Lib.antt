pub mod Asked
pub mod Tallies
