pub mod Near
pub mod Parts
pub mod Spelled
pub mod Patterns
pub mod Theorems
