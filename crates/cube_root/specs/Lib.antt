pub mod Cube
pub mod Cut
pub mod Power
pub mod Claims
pub mod Examples
