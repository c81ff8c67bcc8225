pub mod Walk
pub mod Cells
