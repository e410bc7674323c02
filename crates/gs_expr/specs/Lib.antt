pub mod Cutting
pub mod Machine
pub mod Parts
pub mod Refusal
pub mod Token
pub mod Tree
pub mod Truth
