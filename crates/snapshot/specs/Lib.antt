pub mod Snapshot
pub mod Feed
pub mod Receiver
pub mod Sizes
