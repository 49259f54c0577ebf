-- The profile is the full program, narrowed (Same, Demand3). The rest serves the proofs of the functions.
pub mod Narrow
pub mod Near
mod Filling
mod Rooms
pub mod Same
pub mod Demand3
