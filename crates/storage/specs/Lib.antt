pub mod Storage
pub mod Near
