pub mod LotLaws
pub mod OutLaws
