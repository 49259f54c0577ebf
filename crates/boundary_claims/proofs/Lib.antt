-- Lent memory asked again and again, and a record stored and written back.
pub mod Trips
pub mod Sequences
