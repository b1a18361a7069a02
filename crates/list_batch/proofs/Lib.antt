pub mod FloatBits
pub mod Places
