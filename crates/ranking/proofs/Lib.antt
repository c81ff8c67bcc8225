pub mod OrderLaws
pub mod RankingLaws
pub mod ChoiceLaws
pub mod Bridge
pub mod LeadLaws
pub mod ChosenLaws
