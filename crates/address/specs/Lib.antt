pub mod Text
pub mod Quoted
pub mod Address
pub mod Laws
pub mod Examples
