pub mod Letters
pub mod Progress
pub mod Answer
pub mod Law
pub mod Faults
pub mod Standing
