pub mod Nearest
pub mod Decimal
pub mod Print
pub mod Lookup
pub mod TableFault
pub mod Spots
