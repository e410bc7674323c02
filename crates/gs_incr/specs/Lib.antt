pub mod Laid
pub mod Queue
pub mod Seen
pub mod Shown
pub mod Walk
