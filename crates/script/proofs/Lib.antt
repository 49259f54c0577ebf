-- Laws that the proofs of the functions share.
mod Posts
pub mod Numbers
