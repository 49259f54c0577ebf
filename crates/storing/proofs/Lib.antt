pub mod Runs
pub mod Rooms
pub mod Kept
