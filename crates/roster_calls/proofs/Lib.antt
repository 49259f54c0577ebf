-- Laws that the proofs of the functions share; those that other crates use are pub.
mod Shifts
pub mod Kept
mod Standing
