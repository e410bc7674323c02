pub mod Journal
pub mod Noted
pub mod Book
