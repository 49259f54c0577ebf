-- Laws that the proofs of the functions share; those that other crates use are pub.
pub mod Tests
pub mod Pairs
pub mod Packing
pub mod Epochs
mod Passes
pub mod Sorted
pub mod Decode
pub mod Rows
pub mod Found
