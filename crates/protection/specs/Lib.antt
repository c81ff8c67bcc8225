pub mod Protection
pub mod code
