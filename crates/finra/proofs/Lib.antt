pub mod OrLaws
pub mod FinraLaws
