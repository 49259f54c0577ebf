pub mod Trig
pub mod Examples
