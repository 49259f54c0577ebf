pub mod DeepSpace
pub mod Sgp4
pub mod Row
pub mod Kept
pub mod Claims
pub mod Two
