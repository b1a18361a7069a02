pub mod Limits
pub mod Holding
pub mod Lying
pub mod Ends
pub mod Rounded
pub mod Joints
