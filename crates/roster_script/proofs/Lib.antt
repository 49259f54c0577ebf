-- Laws that the proofs of the functions share, and the total.
mod Scripts
mod History
pub mod Totals
mod Posts
