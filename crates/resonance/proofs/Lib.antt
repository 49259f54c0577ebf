-- Laws that the proofs share, and those that a caller's proofs cite.
pub mod Laws
pub mod Iterates
pub mod Handed
mod Sides
mod Atime
