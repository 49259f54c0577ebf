pub mod Report
pub mod State
pub mod Numbers
pub mod Claims
pub mod Examples
