pub mod Work
pub mod code
