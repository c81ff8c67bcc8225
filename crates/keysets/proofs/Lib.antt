pub mod SetLaws
pub mod FoldLaws
pub mod KeyLaws
