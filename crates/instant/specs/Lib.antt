pub mod Division
pub mod Quantity
pub mod Calendar
pub mod Move
pub mod Since
pub mod Greenwich
pub mod Claims
pub mod Examples
