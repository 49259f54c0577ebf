pub mod Ranks
mod Places
