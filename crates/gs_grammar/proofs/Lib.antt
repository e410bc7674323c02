pub mod Answers
pub mod Exclusive
pub mod Judged
pub mod Lawful
pub mod Refusals
pub mod Runs
