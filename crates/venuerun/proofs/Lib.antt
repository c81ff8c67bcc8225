pub mod NeededLaws
pub mod PackLaws
pub mod RunCases
pub mod RunLaws
pub mod StandLaws
pub mod TurnLaws
pub mod VenueLaws
