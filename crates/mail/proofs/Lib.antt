pub mod Held
pub mod Marked
pub mod Numbered
pub mod Spelled
