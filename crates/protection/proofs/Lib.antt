pub mod HaltLaws
pub mod ProtectionLaws
pub mod StepLaws
