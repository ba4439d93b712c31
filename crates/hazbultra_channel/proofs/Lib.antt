mod AsBox
mod Steps
mod Sent
mod Told
