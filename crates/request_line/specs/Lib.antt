pub mod Times
pub mod Request
pub mod Examples
