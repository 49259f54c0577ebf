mod Places
mod Turns
mod Answers
pub mod Rooms
