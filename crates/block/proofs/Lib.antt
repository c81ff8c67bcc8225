pub mod SumLaws
pub mod StartLaws
pub mod SequenceLaws
pub mod CheckLaws
pub mod MessageLaws
pub mod WrittenLaws
pub mod WrittenCases
pub mod Cases
