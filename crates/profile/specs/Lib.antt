pub mod Opening
pub mod Request
pub mod Lists
pub mod Rows
pub mod Demand3
pub mod Claims
