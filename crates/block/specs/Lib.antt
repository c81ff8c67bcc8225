pub mod Block
pub mod Sequence
pub mod Written
