pub mod Root
pub mod Claims
pub mod Examples
