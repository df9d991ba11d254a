pub mod Choices
pub mod Policies
