pub mod Plan
pub mod Acceptable
pub mod Claims
pub mod Examples
