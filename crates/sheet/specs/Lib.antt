pub mod Numbers
pub mod Model
pub mod Shown
pub mod Undo
pub mod Reached
pub mod Laws
