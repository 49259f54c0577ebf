pub mod Feeding
pub mod Counts
pub mod Whole
pub mod Pairs
pub mod Times
pub mod LineEnds
pub mod Claims
mod Judged
