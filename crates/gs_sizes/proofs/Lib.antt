pub mod Positions
pub mod Texts
pub mod Given
pub mod Reading
pub mod Loop
pub mod Back
