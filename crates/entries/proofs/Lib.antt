pub mod Closed
pub mod Leading
pub mod FinraLaws
pub mod LengthLaws
pub mod NoneLaws
