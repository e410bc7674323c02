pub mod Format
pub mod Lines
pub mod Names
pub mod Reader
pub mod Refusal
pub mod Spef
pub mod Wires
