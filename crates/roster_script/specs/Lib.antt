pub mod Total
pub mod Script
