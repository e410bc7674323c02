pub mod Causes
pub mod Cycle
pub mod Graph
pub mod Incoming
pub mod Levels
pub mod Order
pub mod Progress
pub mod Search
