pub mod Integers
pub mod Dyadic
pub mod Limbs
pub mod Claims
