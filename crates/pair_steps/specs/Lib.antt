pub mod Fate
pub mod Steps
