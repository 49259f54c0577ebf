pub mod Boundary
pub mod Opening
pub mod Requests
