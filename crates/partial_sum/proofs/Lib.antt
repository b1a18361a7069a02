mod Windows
mod Absorbing
mod Heads
mod Placing
mod Ending
mod Meaning
mod Slices
mod Determined
mod Large
mod Deciding
mod Shortness
mod Unique
mod Resting
mod Assembling
mod LimbLists
pub mod Joining
mod Same
