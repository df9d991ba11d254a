pub mod Addresses
pub mod Parts
pub mod Tables
pub mod Letters
pub mod Marks
pub mod Rolls
