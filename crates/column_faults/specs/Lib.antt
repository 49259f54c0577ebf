pub mod Faults
pub mod Sums
pub mod Claims
