pub mod KeyLaws
pub mod BlankLaws
pub mod CutLaws
pub mod FrameLaws
