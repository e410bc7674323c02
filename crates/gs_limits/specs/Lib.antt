pub mod Limit
pub mod Outcome
pub mod Kinds
