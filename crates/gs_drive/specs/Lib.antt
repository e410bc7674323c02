pub mod Cause
pub mod Machine
pub mod Pieces
pub mod Read
pub mod Reader
pub mod Tokens
