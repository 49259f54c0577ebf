pub mod Angle
pub mod Examples
pub mod Two
