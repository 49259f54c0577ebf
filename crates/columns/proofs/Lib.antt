pub mod Columns
pub mod ThreeSame
pub mod Sums
pub mod Every
pub mod FirstPlaces
pub mod Prefix
