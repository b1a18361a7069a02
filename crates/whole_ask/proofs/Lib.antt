pub mod Repeated
pub mod Replies
pub mod Faults
