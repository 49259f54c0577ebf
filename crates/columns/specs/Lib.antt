pub mod Layout
pub mod Three
pub mod Sum
pub mod FirstPlace
pub mod Claims
