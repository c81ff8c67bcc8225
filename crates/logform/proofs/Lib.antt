pub mod Cases
pub mod LogLaws
