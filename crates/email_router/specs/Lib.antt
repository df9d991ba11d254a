pub mod Reports
pub mod Door
pub mod Envelope
pub mod Actions
pub mod Bounds
pub mod Chosen
pub mod Given
pub mod Opened
