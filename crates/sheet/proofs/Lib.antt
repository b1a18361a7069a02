pub mod Notes
pub mod Agreeing
pub mod Refusing
pub mod Settling
