pub mod Turns
pub mod Data
pub mod Reaches
pub mod Law
