pub mod Dscom
pub mod Dsinit
pub mod Finite
