pub mod Sort
pub mod Said
pub mod Examples
