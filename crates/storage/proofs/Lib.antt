-- What a caller's proofs cite of memory for a satellite near the Earth.
pub mod Short
