pub mod CopiedLimbs
pub mod FoundPlaces
pub mod Placing
pub mod Classes
pub mod Asking
pub mod Enclosing
