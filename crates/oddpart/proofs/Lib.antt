pub mod ItemsLaws
pub mod PartLaws
pub mod OddLaws
pub mod AnswerLaws
pub mod Cases
