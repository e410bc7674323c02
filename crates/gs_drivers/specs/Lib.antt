pub mod Outputs
pub mod Twice
