pub mod Print
pub mod Claims
pub mod Examples
