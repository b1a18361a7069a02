pub mod AnyGrids
pub mod Asked
