pub mod Surveying
pub mod Marked
