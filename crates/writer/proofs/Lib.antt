pub mod GoodLaws
pub mod LoopLaws
pub mod FrameLaws
pub mod NumberLaws
pub mod OutLaws
pub mod RoundLaws
