pub mod Faults
pub mod Files
pub mod Lists
pub mod Memory
pub mod Transfer
pub mod Whole
