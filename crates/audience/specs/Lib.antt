pub mod Mail
pub mod Rules
pub mod Due
pub mod Answers
pub mod Known
pub mod Promises
pub mod Counterexamples
pub mod Table
