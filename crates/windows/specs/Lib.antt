pub mod Windows
pub mod Scan
pub mod Answer
pub mod Claims
