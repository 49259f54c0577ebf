pub mod Command
pub mod Answers
pub mod Examples
