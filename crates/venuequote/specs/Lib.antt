pub mod Quote
pub mod code
