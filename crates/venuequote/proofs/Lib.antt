pub mod CodeLaws
pub mod ReadLaws
pub mod WriteLaws
