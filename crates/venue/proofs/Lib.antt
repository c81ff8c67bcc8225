pub mod WalkLaws
pub mod BlockLaws
pub mod VenueCases
