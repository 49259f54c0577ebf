-- The laws that the proofs of the functions share.
mod Answers
pub mod Filling
pub mod Listing
