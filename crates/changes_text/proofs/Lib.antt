pub mod Words
pub mod Told
pub mod Lengths
