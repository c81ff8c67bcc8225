pub mod FlagLaws
pub mod KeptLaws
pub mod MessageLaws
pub mod PartLaws
pub mod PlaceLaws
pub mod RunLaws
pub mod TakeLaws
pub mod WorkLaws
