pub mod Dpper
