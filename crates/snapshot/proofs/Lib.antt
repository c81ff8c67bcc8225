pub mod Words
pub mod Cases
pub mod MessageLaws
pub mod BlockLaws
pub mod PackLaws
pub mod RoundLaws
pub mod ShownLaws
pub mod EntryLaws
