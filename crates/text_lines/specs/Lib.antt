pub mod Lines
pub mod Views
