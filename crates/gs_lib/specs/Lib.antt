pub mod Classes
pub mod Draft
pub mod Faults
pub mod Index
pub mod Inputs
pub mod Library
pub mod Profile
