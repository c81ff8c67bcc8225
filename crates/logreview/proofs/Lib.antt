pub mod LogLaws
pub mod Reviewed
