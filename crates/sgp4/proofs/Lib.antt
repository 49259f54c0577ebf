-- Laws that belong to no one function.
pub mod Two
pub mod Kept
