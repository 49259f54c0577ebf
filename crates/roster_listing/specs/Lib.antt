pub mod Age
pub mod Text
pub mod Claims
pub mod Examples
