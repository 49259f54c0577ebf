-- Laws that the proofs share. A crate that builds on this one cites them, as `Rattle.floats.proofs.Branch`.
pub mod Branch
pub mod Literals
pub mod Patterns
pub mod Theorems
