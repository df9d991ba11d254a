pub mod Packing
pub mod Ends
pub mod Faults
pub mod Reading
pub mod Laws
pub mod Sizes
pub mod Views
pub mod Written
