pub mod Runs
pub mod WrittenBits
pub mod ZeroLimbs
