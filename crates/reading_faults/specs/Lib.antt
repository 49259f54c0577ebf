pub mod Ranges
pub mod Fault
pub mod Examples
