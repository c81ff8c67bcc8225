pub mod Runs
pub mod Reviewer
pub mod Lists
pub mod Frame
pub mod Numbers
pub mod Recovered
pub mod Ticks
