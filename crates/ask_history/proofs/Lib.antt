pub mod Leading
pub mod Calling
pub mod Answering
pub mod Entering
