pub mod HeaderLaws
pub mod QuoteLaws
