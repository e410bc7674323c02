pub mod Bytes
pub mod Depth
pub mod Machine
pub mod Reading
pub mod Refusal
pub mod Text
pub mod Token
pub mod Tree
