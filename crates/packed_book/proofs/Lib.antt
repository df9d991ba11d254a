pub mod BookPacks
pub mod Puts
pub mod Rows
pub mod Views
pub mod Walks
