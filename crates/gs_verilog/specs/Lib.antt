pub mod Circuit
pub mod Index
pub mod Machine
pub mod Names
pub mod Refusal
pub mod Text
pub mod Token
pub mod Tree
