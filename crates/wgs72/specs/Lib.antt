pub mod Getgravconst
pub mod Computed
