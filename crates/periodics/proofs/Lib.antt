-- What a caller's proofs cite.
pub mod Setup
