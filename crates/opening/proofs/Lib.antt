-- What a caller's proofs cite: an opened satellite is newly opened, and every number in it is finite.
mod Tests
mod FloatLaws
mod Guard
mod AheadSame
pub mod Inside
pub mod Made
pub mod AllFinite
