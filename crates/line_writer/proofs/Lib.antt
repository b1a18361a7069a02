pub mod Writes
pub mod Joined
pub mod HexDigits
pub mod Lengths
