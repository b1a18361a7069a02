pub mod Published
pub mod Asked
pub mod Laws
pub mod Trace
pub mod Examples
