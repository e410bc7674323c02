pub mod First
pub mod Places
pub mod FoundLaws
pub mod Inside
pub mod ArcLaws
pub mod TallyLaws
pub mod Fronts
