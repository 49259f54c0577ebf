pub mod Passes
pub mod Looks
