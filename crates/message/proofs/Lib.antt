pub mod SpokenLaws
