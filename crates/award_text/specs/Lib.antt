pub mod Text
pub mod Print
pub mod Examples
