pub mod Nine
pub mod Demand3
pub mod Plain
pub mod Edges
