pub mod Tests
pub mod Tables
pub mod Searches
pub mod Members
pub mod Ranges
pub mod Iteration
