pub mod Lines
pub mod Sizes
pub mod Refusal
pub mod Written
pub mod Reader
