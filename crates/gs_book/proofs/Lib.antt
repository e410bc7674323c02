pub mod JournalLaws
pub mod KeptLaws
pub mod NotedLaws
pub mod SettleLaws
