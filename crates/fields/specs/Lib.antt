pub mod Words
pub mod Checking
pub mod Laws
pub mod Held
