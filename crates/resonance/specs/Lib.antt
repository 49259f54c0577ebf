pub mod Dots
pub mod Place
pub mod Dspace
pub mod Held
pub mod Time
