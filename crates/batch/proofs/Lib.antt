pub mod Regulars
pub mod Lookups
pub mod Units
pub mod Runs
