pub mod Counts
pub mod LogLaws
pub mod OneNet
pub mod Placed
pub mod Texts
