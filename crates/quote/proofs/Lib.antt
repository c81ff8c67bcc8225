pub mod QuoteLaws
pub mod AdmitsLaws
pub mod OverLaws
pub mod Cases
