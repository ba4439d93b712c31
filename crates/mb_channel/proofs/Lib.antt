pub mod Accounts
mod Audits
mod Back
mod Below
mod Chairs
mod Closing
mod Counts
mod Deeds
mod EndLogs
mod Ends
mod Freed
mod Hiring
mod Halves
mod Lengths
pub mod Lives
mod Logs
mod LogsTold
mod Members
mod Moves
mod Order
mod Owners
mod Places
mod Remembers
mod Rests
pub mod Since
mod States
mod Stays
pub mod Theorems
mod Turns
mod Views
pub mod Visited
mod Whole
