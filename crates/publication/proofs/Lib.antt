pub mod PublicationLaws
pub mod StandingLaws
