pub mod Parts
pub mod Forms
pub mod Written
pub mod Languages
