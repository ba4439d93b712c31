-- In the order of reading: a file stands on files above it.
pub mod Types
pub mod Desks
pub mod Ends
pub mod Lives
pub mod BoundedSamples
