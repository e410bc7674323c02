pub mod Attribute
pub mod Grid
pub mod Number
pub mod Pin
pub mod Template
pub mod Text
pub mod Timing
pub mod Unit
