pub mod Samples
pub mod Passes
