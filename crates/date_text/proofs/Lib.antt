pub mod Months
pub mod Theorems
