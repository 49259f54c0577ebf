pub mod Fields
pub mod Merge
pub mod Bounds
pub mod Buffers
