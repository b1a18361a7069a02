pub mod Wrote
pub mod Separators
pub mod Fields
pub mod Answers
pub mod Longest
