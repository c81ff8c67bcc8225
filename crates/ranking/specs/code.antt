pub mod Choice
pub mod Chosen
