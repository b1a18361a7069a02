pub mod NoTerms
pub mod Data
pub mod Traced
pub mod Law
