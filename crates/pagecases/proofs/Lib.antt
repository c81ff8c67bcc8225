pub mod Closed
pub mod Keys
pub mod Orders
pub mod Pages
pub mod Protected
