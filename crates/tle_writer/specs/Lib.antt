pub mod Field
pub mod Lines
pub mod Over
pub mod Write
pub mod Claims
pub mod Examples
