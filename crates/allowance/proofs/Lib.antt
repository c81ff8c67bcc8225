pub mod ByteLaws
pub mod ChargeLaws
pub mod ClaimLaws
pub mod SettingLaws
pub mod ViewLaws
