pub mod Cut
pub mod Layout
pub mod Page
