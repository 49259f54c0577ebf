mod Since
pub mod Scanning
pub mod Tail
mod Refusing
mod Timing
pub mod Tying
mod Looking
mod Far
mod Calling
pub mod Claims
