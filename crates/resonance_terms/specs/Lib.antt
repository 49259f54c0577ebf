pub mod Dsinit
pub mod Ahead
pub mod Finite
