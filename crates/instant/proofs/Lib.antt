-- Laws that the proofs share, and the theorems of the calendar.
pub mod Signed
pub mod Calendar
pub mod Move
pub mod Difference
pub mod Once
pub mod Long
pub mod Grow
pub mod Constants
pub mod Exponent
pub mod Theorems
