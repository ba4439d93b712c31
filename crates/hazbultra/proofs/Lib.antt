mod AsBox
mod Diaries
mod Steps
