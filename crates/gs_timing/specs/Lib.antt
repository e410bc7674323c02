pub mod Calm
pub mod Done
pub mod Late
pub mod Same
