pub mod Notation
pub mod Horner
pub mod Magnitude
pub mod Examples
