-- Bounds on rounded results, and the theorem.
mod Bounds
pub mod Angle
