pub mod Columns
pub mod Lookups
pub mod Limbs
pub mod Significands
pub mod Lengths
pub mod Restored
