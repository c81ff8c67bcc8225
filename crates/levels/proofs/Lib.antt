pub mod LevelLaws
pub mod ItemLaws
pub mod SideLaws
pub mod ReadingLaws
pub mod CellLaws
pub mod TouchLaws
