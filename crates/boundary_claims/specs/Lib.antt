pub mod Trips
pub mod Sequences
