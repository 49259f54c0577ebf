pub mod Output
pub mod Input
pub mod Examples
