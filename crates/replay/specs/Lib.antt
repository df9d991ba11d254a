pub mod Hex
pub mod Lines
pub mod People
pub mod Turns
