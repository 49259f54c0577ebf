pub mod Answer
pub mod Requests
