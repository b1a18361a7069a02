pub mod Steps
pub mod Tokens
pub mod Reading
pub mod Decoded
pub mod Claims
