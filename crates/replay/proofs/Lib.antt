pub mod HexDigits
pub mod Trays
pub mod TextLines
pub mod Told
pub mod Room
