pub mod Told
pub mod Asked
