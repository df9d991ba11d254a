pub mod Keep
pub mod Model
pub mod Laws
pub mod Equivalences
