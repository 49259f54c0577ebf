pub mod Lengths
mod Printing
