-- The laws that the proofs of the functions share.
mod Rosters
mod Printed
pub mod Records
