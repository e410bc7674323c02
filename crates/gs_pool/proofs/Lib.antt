pub mod GrowLaws
pub mod SettleLaws
pub mod TurnLaws
