pub mod Theorems
pub mod Moved
mod RootLaws
mod RootPatterns
