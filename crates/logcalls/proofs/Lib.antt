pub mod Cases
pub mod FilledLaws
pub mod KindLaws
pub mod RanLaws
pub mod ReplayLaws
pub mod RoomLaws
pub mod WordLaws
