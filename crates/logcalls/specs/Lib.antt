pub mod Answers
pub mod code
pub mod Kinds
pub mod Replayed
pub mod Restored
