pub mod Bounded
pub mod Nets
pub mod Order
pub mod Over
pub mod Steps
