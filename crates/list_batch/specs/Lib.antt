pub mod WordTerms
pub mod Lists
pub mod ListLimits
pub mod BitPatterns
pub mod Rows
pub mod ScaledTerms
pub mod FloatValues
