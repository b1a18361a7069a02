pub mod Rounded
pub mod Descending
