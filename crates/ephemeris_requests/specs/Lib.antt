pub mod Requests
pub mod Claims
pub mod Examples
