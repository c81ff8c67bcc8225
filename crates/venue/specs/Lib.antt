pub mod Venue
pub mod code
