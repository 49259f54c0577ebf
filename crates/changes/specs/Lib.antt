pub mod Entry
pub mod Changes
pub mod Claims
pub mod Examples
