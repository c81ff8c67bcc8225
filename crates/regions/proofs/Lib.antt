pub mod RegionLaws
pub mod RefreshLaws
pub mod Own
pub mod OwnLaws
pub mod PartLaws
pub mod SentLaws
pub mod CodeLaws
