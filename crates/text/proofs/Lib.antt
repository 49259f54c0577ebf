pub mod Pieces
pub mod Spell
pub mod Signed
pub mod Floats
pub mod Lengths
pub mod Feeding
pub mod Whole
pub mod Newline
