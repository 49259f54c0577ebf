pub mod Words
pub mod Print
pub mod Examples
