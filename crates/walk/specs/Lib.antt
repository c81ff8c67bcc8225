pub mod Bests
pub mod code
