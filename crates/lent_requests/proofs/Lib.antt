-- The laws that the proofs of the functions share.
mod Rooms
pub mod Loads
pub mod Posts
