pub mod Piece
pub mod Statement
pub mod Found
pub mod Verilog
pub mod Sdc
pub mod Spef
pub mod Nest
pub mod Liberty
