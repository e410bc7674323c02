pub mod Leakage
pub mod Sum
pub mod Text
