pub mod Command
pub mod Front
pub mod Parts
pub mod Reader
pub mod Reads
pub mod Sdc
pub mod Terms
pub mod Token
