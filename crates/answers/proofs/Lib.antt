-- An answer taken apart, and the columns that come back with it.
pub mod Parts
pub mod Columns
