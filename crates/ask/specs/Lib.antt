pub mod Told
pub mod Checked
pub mod Both
