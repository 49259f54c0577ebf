pub mod Number
pub mod Catalogue
pub mod Legal
pub mod Refusals
pub mod Read
pub mod Claims
pub mod Examples
