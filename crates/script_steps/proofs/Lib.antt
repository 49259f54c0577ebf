pub mod Rooms
pub mod Calls
pub mod Running
pub mod Enough
