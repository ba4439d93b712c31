pub mod Shifts
pub mod Zeros
