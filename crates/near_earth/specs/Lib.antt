pub mod Powers
pub mod Initl
pub mod Kept
pub mod Sgp4init
pub mod Finite
