pub mod ConvertLaws
pub mod NumberLaws
pub mod KnownLaws
pub mod ProtectedLaws
pub mod OrderLaws
pub mod SoundLaws
pub mod TakenLaws
pub mod SnapshotLaws
