pub mod Date
pub mod Claims
pub mod Examples
