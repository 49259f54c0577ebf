pub mod Fixed
pub mod Parts
pub mod Claims
pub mod Examples
