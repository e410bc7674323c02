pub mod Answers
pub mod Fronts
pub mod Judged
pub mod Lawful
pub mod Machine
