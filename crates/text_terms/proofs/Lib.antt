pub mod Growing
pub mod Faults
