pub mod Entries
pub mod Publication
