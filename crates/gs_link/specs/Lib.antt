pub mod Linked
pub mod Cause
pub mod Columns
pub mod Built
pub mod Pieces
pub mod Answers
