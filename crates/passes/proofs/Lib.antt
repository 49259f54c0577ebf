pub mod Steps
mod Scans
mod Whole
