pub mod Loop
pub mod Steps
mod Ended
