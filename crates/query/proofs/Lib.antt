pub mod AskedLaws
pub mod OrderLaws
pub mod ReadLaws
