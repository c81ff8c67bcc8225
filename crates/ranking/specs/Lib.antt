pub mod Ranking
pub mod Held
pub mod code
