-- Laws that belong to no one function.
mod Rounds
mod Ahead
pub mod Kept
pub mod Two
