pub mod Buffers
pub mod Call
pub mod code
