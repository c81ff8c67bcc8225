pub mod Sweep
pub mod Division
pub mod code
