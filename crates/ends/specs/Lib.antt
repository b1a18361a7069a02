pub mod Directions
pub mod Ends
pub mod Outcome
pub mod Steps
