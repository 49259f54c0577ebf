mod Edges
mod Tops
mod Order
mod Held
pub mod Claims
