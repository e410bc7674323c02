pub mod Lists
pub mod Records
pub mod LaidLaws
pub mod QueueLaws
pub mod ConeLaws
pub mod ReaderLaws
pub mod WalkLaws
pub mod SeenLaws
