pub mod Turning
pub mod Reaching
pub mod Entering
