pub mod Theorems
mod Remainder
mod Turns
