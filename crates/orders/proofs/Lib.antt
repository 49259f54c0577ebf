-- Wish 14: counts of strides by the farthest times, rearrangements, an outward order of any list, and the theorem.
mod Counts
mod Moving
mod Sorting
mod Ordered
pub mod Best
pub mod Written
pub mod Examples
