pub mod Elements
pub mod DeepSpace
pub mod Ahead
pub mod Opening
pub mod Finite
pub mod Claims
pub mod Examples
