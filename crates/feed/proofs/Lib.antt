pub mod LetterLaws
pub mod BlockLaws
pub mod FeedLaws
